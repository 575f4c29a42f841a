-- Sums over the numbers below n, and pigeonhole: a one-to-one map of the numbers below n into themselves takes each value
-- exactly once, so it leaves every sum over them as it is. Assumes nothing.
use Rattle.std.proofs.Common.{◌≡◌, ℕ, zero, suc, ◌+◌, ◌*◌, ◌<◌, ◌≤◌, cond, eqb, sym, refl, ap, ◌∙◌, ap₂, ⊎_elim, add-zero, add-suc, suc-mul, add-mul, one-mul, mul-zero, zero-mul, mul-suc, add-one, arith}
use Rattle.std.proofs.lemmas.Bool.{cases_eq, cond-false, cond-true, eq-eqb, ne_eqb}

-- the sum of f over the numbers below n
abbrev pub sum_below : ℕ → (ℕ → ℕ) → ℕ
sum_below zero f = 0
sum_below (suc n) f = sum_below n f + f n

pub sum_same : (n : ℕ) (f g : ℕ → ℕ) → ((i : ℕ) → i < n → f i ≡ g i) → sum_below n f ≡ sum_below n g
sum_same zero f g same = refl
sum_same (suc n) f g same = ap₂ ◌+◌ (sum_same n f g (λ i h. same i (omega (arith, h)))) (same n (omega arith))

pub sum_of_zeros : (n : ℕ) → sum_below n (λ i. 0) ≡ 0
sum_of_zeros zero = refl
sum_of_zeros (suc n) = omega (arith, sum_of_zeros n)

pub sum_of_sums : (n : ℕ) (f g : ℕ → ℕ) → sum_below n (λ i. f i + g i) ≡ sum_below n f + sum_below n g
sum_of_sums zero f g = refl
sum_of_sums (suc n) f g = omega (arith, sum_of_sums n f g)

pub sum_of_ones : (n : ℕ) → sum_below n (λ i. 1) ≡ n
sum_of_ones zero = refl
sum_of_ones (suc n) = omega (arith, sum_of_ones n)

-- a double sum in the other order
pub sum_swapped : (n m : ℕ) (f : ℕ → ℕ → ℕ) → sum_below n (λ i. sum_below m (f i)) ≡ sum_below m (λ j. sum_below n (λ i. f i j))
sum_swapped zero m f = sym (sum_of_zeros m)
sum_swapped (suc n) m f =
    ap (λ x. x + sum_below m (f n)) (sum_swapped n m f) ∙ sym (sum_of_sums m (λ j. sum_below n (λ i. f i j)) (f n))

pub sum_of_equals : (n x : ℕ) → sum_below n (λ i. x) ≡ x * n
sum_of_equals zero x = sym (mul-zero x)
sum_of_equals (suc n) x = ap (λ k. k + x) (sum_of_equals n x) ∙ sym (mul-suc x n)

pub sum_of_multiples : (n w : ℕ) (f : ℕ → ℕ) → sum_below n (λ i. f i * w) ≡ sum_below n f * w
sum_of_multiples zero w f = sym (zero-mul w)
sum_of_multiples (suc n) w f = ap (λ k. k + f n * w) (sum_of_multiples n w f) ∙ sym (add-mul (sum_below n f) (f n) w)

-- a sum in two parts
pub sum_joined : (a b : ℕ) (f : ℕ → ℕ) → sum_below (a + b) f ≡ sum_below a f + sum_below b (λ i. f (a + i))
sum_joined a zero f = ap (λ k. sum_below k f) (add-zero a) ∙ sym (add-zero (sum_below a f))
sum_joined a (suc b) f = ap (λ k. sum_below k f) (add-suc a b) ∙ omega (arith, sum_joined a b f)

-- a sum in n parts of w
pub sum_in_parts : (n w : ℕ) (f : ℕ → ℕ) → sum_below (n * w) f ≡ sum_below n (λ i. sum_below w (λ x. f (i * w + x)))
sum_in_parts zero w f = ap (λ k. sum_below k f) (zero-mul w)
sum_in_parts (suc n) w f =
    ap (λ k. sum_below k f) (suc-mul n w) ∙ sum_joined (n * w) w f ∙ ap (λ x. x + sum_below w (λ i. f (n * w + i))) (sum_in_parts n w f)

-- a sum with one term that is not 0
pub sum_of_none : (n v : ℕ) (g : ℕ → ℕ) → n ≤ v → sum_below n (λ j. cond (eqb v j) (g j) 0) ≡ 0
sum_of_none zero v g h = refl
sum_of_none (suc n) v g h =
    omega (arith, sum_of_none n v g (omega (arith, h)), cond-false (eqb v n) (g n) 0 (ne_eqb v n (λ e. omega (arith, e, h))))

pub sum_of_one : (n v : ℕ) (g : ℕ → ℕ) → v < n → sum_below n (λ j. cond (eqb v j) (g j) 0) ≡ g v
sum_of_one zero v g h = elim h [ ]
sum_of_one (suc n) v g h =
    ⊎_elim
    (λ e. omega (arith, sum_of_none n v g (omega (arith, e)), cond-true (eqb v n) (g n) 0 (eq-eqb v n e), ap g e))
    (λ ne. omega (arith, sum_of_one n v g (omega (arith, h, ne)), cond-false (eqb v n) (g n) 0 (ne_eqb v n ne)))
    (cases_eq v n)

-- numbers of at most 1 add up to at most their number
pub sum_of_small : (n : ℕ) (f : ℕ → ℕ) → ((i : ℕ) → i < n → f i ≤ 1) → sum_below n f ≤ n
sum_of_small zero f small = omega arith
sum_of_small (suc n) f small = omega (arith, sum_of_small n f (λ i h. small i (omega (arith, h))), small n (omega arith))

-- where they add up to all of it, each is 1
pub all_one : (n : ℕ) (f : ℕ → ℕ) → ((i : ℕ) → i < n → f i ≤ 1) → sum_below n f ≡ n → (i : ℕ) → i < n → f i ≡ 1
all_one zero f small full i h = elim h [ ]
all_one (suc n) f small full i h =
    let rest = sum_of_small n f (λ k l. small k (omega (arith, l))) in
    let last = small n (omega arith) in
    ⊎_elim
    (λ e. ap f e ∙ omega (arith, rest, last, full))
    (λ ne. all_one n f (λ k l. small k (omega (arith, l))) (omega (arith, rest, last, full)) i (omega (arith, h, ne)))
    (cases_eq i n)

-- f takes numbers below n to numbers below n, different ones to different ones
pub record Permutes (n : ℕ) (f : ℕ → ℕ) : Type 0 where
  pub below : (i : ℕ) → i < n → f i < n
  pub one_to_one : (i j : ℕ) → i < n → j < n → f i ≡ f j → i ≡ j

-- how often f takes the value v below n
abbrev pub hits : ℕ → (ℕ → ℕ) → ℕ → ℕ
hits n f v = sum_below n (λ i. cond (eqb (f i) v) 1 0)

hits_none : (n : ℕ) (f : ℕ → ℕ) (v : ℕ) → ((i : ℕ) → i < n → f i ≡ v → ⊥) → hits n f v ≡ 0
hits_none zero f v none = refl
hits_none (suc n) f v none =
    omega (arith, hits_none n f v (λ i h. none i (omega (arith, h))), cond-false {A = ℕ} (eqb (f n) v) 1 0 (ne_eqb (f n) v (none n (omega arith))))

hits_at_most_one : (n : ℕ) (f : ℕ → ℕ) (v : ℕ) → ((i j : ℕ) → i < n → j < n → f i ≡ f j → i ≡ j) → hits n f v ≤ 1
hits_at_most_one zero f v one = omega arith
hits_at_most_one (suc n) f v one =
    ⊎_elim
    (λ e. omega (
      arith,
      hits_none n f v (λ i h is. omega (arith, h, one i n (omega (arith, h)) (omega arith) (is ∙ sym e))),
      cond-true {A = ℕ} (eqb (f n) v) 1 0 (eq-eqb (f n) v e),
    ))
    (λ ne. omega (
      arith,
      hits_at_most_one n f v (λ i j h k. one i j (omega (arith, h)) (omega (arith, k))),
      cond-false {A = ℕ} (eqb (f n) v) 1 0 (ne_eqb (f n) v ne),
    ))
    (cases_eq (f n) v)

-- the hits of all values are as many as the numbers
hits_together : (n : ℕ) (f : ℕ → ℕ) → ((i : ℕ) → i < n → f i < n) → sum_below n (hits n f) ≡ n
hits_together n f below =
    sum_swapped n n (λ v i. cond (eqb (f i) v) 1 0)
    ∙ sum_same n (λ i. sum_below n (λ v. cond (eqb (f i) v) 1 0)) (λ i. 1) (λ i h. sum_of_one n (f i) (λ v. 1) (below i h))
    ∙ sum_of_ones n

-- pigeonhole: each value is taken exactly once
pub hits_once : (n : ℕ) (f : ℕ → ℕ) → Permutes n f → (v : ℕ) → v < n → hits n f v ≡ 1
hits_once n f p = all_one n (hits n f) (λ v h. hits_at_most_one n f v p.one_to_one) (hits_together n f p.below)

hit_found : (n : ℕ) (f : ℕ → ℕ) (v : ℕ) → 1 ≤ hits n f v → (i : ℕ) × (i < n) × (f i ≡ v)
hit_found zero f v some = elim some [ ]
hit_found (suc n) f v some =
    ⊎_elim (λ e. (n, omega arith, e))
    (λ ne.
    let found = hit_found n f v (omega (arith, some, cond-false {A = ℕ} (eqb (f n) v) 1 0 (ne_eqb (f n) v ne))) in
    (found.0, omega (arith, found.1), found.2))
    (cases_eq (f n) v)

-- a one-to-one map of the numbers below n into themselves is onto
pub onto : (n : ℕ) (f : ℕ → ℕ) → Permutes n f → (v : ℕ) → v < n → (i : ℕ) × (i < n) × (f i ≡ v)
onto n f p v h = hit_found n f v (omega (arith, hits_once n f p v h))

weighted_hits : (n : ℕ) (f : ℕ → ℕ) (x v : ℕ) → sum_below n (λ i. cond (eqb (f i) v) x 0) ≡ hits n f v * x
weighted_hits zero f x v = sym (zero-mul x)
weighted_hits (suc n) f x v =
    ⊎_elim
    (λ e.
    let is = eq-eqb (f n) v e in
    ap₂ ◌+◌ (weighted_hits n f x v) (cond-true (eqb (f n) v) x 0 is) ∙ sym (suc-mul (hits n f v) x)
    ∙ ap (λ k. k * x) (sym (add-one (hits n f v)) ∙ ap (λ k. hits n f v + k) (sym (cond-true {A = ℕ} (eqb (f n) v) 1 0 is))))
    (λ ne.
    let not = ne_eqb (f n) v ne in
    ap₂ ◌+◌ (weighted_hits n f x v) (cond-false (eqb (f n) v) x 0 not) ∙ add-zero (hits n f v * x)
    ∙ ap (λ k. k * x) (sym (add-zero (hits n f v)) ∙ ap (λ k. hits n f v + k) (sym (cond-false {A = ℕ} (eqb (f n) v) 1 0 not))))
    (cases_eq (f n) v)

-- and leaves every sum as it is
pub sum_permuted : (n : ℕ) (f g : ℕ → ℕ) → Permutes n f → sum_below n (λ i. g (f i)) ≡ sum_below n g
sum_permuted n f g p =
    sum_same n (λ i. g (f i)) (λ i. sum_below n (λ v. cond (eqb (f i) v) (g v) 0)) (λ i h. sym (sum_of_one n (f i) g (p.below i h)))
    ∙ sum_swapped n n (λ i v. cond (eqb (f i) v) (g v) 0)
    ∙ sum_same n (λ v. sum_below n (λ i. cond (eqb (f i) v) (g v) 0)) g
    (λ v h. weighted_hits n f (g v) v ∙ ap (λ k. k * g v) (hits_once n f p v h) ∙ one-mul (g v))
