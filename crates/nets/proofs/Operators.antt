-- Operators on elements that have first terms, seen from outside: what an operator does to sums and multiples, how far it looks
-- ahead, and that it takes no element to 0 whose first terms, as many as its degree, are 0, except 0 itself.
-- Take operators that commute, of which no two take an element other than 0 both to 0, and elements, each taken to 0 by one of
-- the operators. If the sum of the elements begins with as many terms 0 as the degrees together, all the elements are 0.
-- Assumes nothing.
use Rattle.std.proofs.Common.{◌≡◌, ℕ, zero, suc, ◌+◌, ◌*◌, ◌<◌, ◌≤◌, sym, refl, ap, ◌∙◌, subst, ap₂, ⊎_elim, add-zero, add_assoc, suc-mul, zero-mul, arith}
use Rattle.std.proofs.lemmas.Bool.{cases_eq}
use Rattle.nets.proofs.Counting.{sum_below}

-- elements with a sum, multiples and a null element, and what it is that the first n terms of an element are 0
pub record Space : Type 1 where
  pub Element : Type 0
  pub Scalar : Type 0
  pub null : Element
  pub plus : Element → Element → Element
  pub times : Scalar → Element → Element
  pub Begins : ℕ → Element → Type 0
  pub null_plus : (u : Element) → plus null u ≡ u
  pub plus_null : (u : Element) → plus u null ≡ u
  pub times_null : (c : Scalar) → times c null ≡ null
  pub fewer : (m n : ℕ) (u : Element) → m ≤ n → Begins n u → Begins m u

-- an operator of some degree g: linear, looks g terms ahead, and takes to null no element but null whose first g terms are 0
pub record Operator (S : Space) : Type 0 where
  pub act : S.Element → S.Element
  pub degree : ℕ
  pub of_null : act S.null ≡ S.null
  pub of_sum : (u v : S.Element) → act (S.plus u v) ≡ S.plus (act u) (act v)
  pub of_multiple : (c : S.Scalar) (u : S.Element) → act (S.times c u) ≡ S.times c (act u)
  pub window : (n : ℕ) (u : S.Element) → S.Begins (n + degree) u → S.Begins n (act u)
  pub determined : (u : S.Element) → act u ≡ S.null → S.Begins degree u → u ≡ S.null

module _ (S : Space) where
  -- an operator takes an element to null
  abbrev pub Annihilates : Operator S → S.Element → Type 0
  Annihilates P u = P.act u ≡ S.null

  -- two operators may be applied in either order
  abbrev pub Commute : Operator S → Operator S → Type 0
  Commute P Q = (u : S.Element) → P.act (Q.act u) ≡ Q.act (P.act u)

  -- two operators take no element but null both to null
  abbrev pub Coprime : Operator S → Operator S → Type 0
  Coprime P Q = (u : S.Element) → Annihilates P u → Annihilates Q u → u ≡ S.null

  -- the sum of f 0 to f (n - 1)
  abbrev pub sum_of : ℕ → (ℕ → S.Element) → S.Element
  sum_of zero f = S.null
  sum_of (suc n) f = S.plus (sum_of n f) (f n)

  -- the combination of r 0 to r (n - 1) with the coefficients c
  abbrev pub combination : ℕ → (ℕ → S.Scalar) → (ℕ → S.Element) → S.Element
  combination n c r = sum_of n (λ i. S.times (c i) (r i))

  -- ---- sums

  -- null elements add up to null
  pub sum_of_nulls : (n : ℕ) (f : ℕ → S.Element) → ((i : ℕ) → i < n → f i ≡ S.null) → sum_of n f ≡ S.null
  sum_of_nulls zero f nulls = refl
  sum_of_nulls (suc n) f nulls =
      ap₂ S.plus (sum_of_nulls n f (λ i h. nulls i (omega (arith, h)))) (nulls n (omega arith)) ∙ S.plus_null S.null

  -- what an operator does to a sum of many
  pub operator_of_sum : (P : Operator S) (n : ℕ) (f : ℕ → S.Element) → P.act (sum_of n f) ≡ sum_of n (λ i. P.act (f i))
  operator_of_sum P zero f = P.of_null
  operator_of_sum P (suc n) f = P.of_sum (sum_of n f) (f n) ∙ ap (λ u. S.plus u (P.act (f n))) (operator_of_sum P n f)

  -- what annihilates some elements annihilates their combinations
  pub annihilates_combination : (P : Operator S) (n : ℕ) (c : ℕ → S.Scalar) (r : ℕ → S.Element)
      → ((i : ℕ) → i < n → Annihilates P (r i)) → Annihilates P (combination n c r)
  annihilates_combination P n c r to_null =
      operator_of_sum P n (λ i. S.times (c i) (r i))
      ∙ sum_of_nulls n (λ i. P.act (S.times (c i) (r i)))
      (λ i h. P.of_multiple (c i) (r i) ∙ ap (S.times (c i)) (to_null i h) ∙ S.times_null (c i))

  -- ---- elements that coprime operators annihilate

  -- if Q 0 to Q (n - 1) commute, are coprime and annihilate f 0 to f (n - 1), one each, and the sum of these elements begins with
  -- as many terms 0 as the degrees of the operators together, then all of them are null
  pub annihilated_elements_null : (n : ℕ) (Q : ℕ → Operator S) (f : ℕ → S.Element) → ((i : ℕ) → i < n → Annihilates (Q i) (f i))
      → ((i j : ℕ) → i < n → j < n → Commute (Q i) (Q j)) → ((i j : ℕ) → i < n → j < n → (i ≡ j → ⊥) → Coprime (Q i) (Q j))
      → S.Begins (sum_below n (λ i. (Q i).degree)) (sum_of n f) → (i : ℕ) → i < n → f i ≡ S.null
  annihilated_elements_null zero Q f to_null commute coprime begins i h = elim h [ ]
  annihilated_elements_null (suc n) Q f to_null commute coprime begins i h =
      let P = Q n in
      let sum_after : P.act (sum_of (suc n) f) ≡ sum_of n (λ i. P.act (f i)) =
      P.of_sum (sum_of n f) (f n) ∙ ap (S.plus (P.act (sum_of n f))) (to_null n (omega arith)) ∙ S.plus_null (P.act (sum_of n f))
      ∙ operator_of_sum P n f in
      let after_null : (i : ℕ) → i < n → Annihilates P (f i) =
      annihilated_elements_null n Q (λ i. P.act (f i))
      (λ i k. commute i n (omega (arith, k)) (omega arith) (f i) ∙ ap P.act (to_null i (omega (arith, k))) ∙ P.of_null)
      (λ i j k l. commute i j (omega (arith, k)) (omega (arith, l)))
      (λ i j k l. coprime i j (omega (arith, k)) (omega (arith, l)))
      (subst (S.Begins (sum_below n (λ i. (Q i).degree))) sum_after (P.window (sum_below n (λ i. (Q i).degree)) (sum_of (suc n) f) begins)) in
      let others : (i : ℕ) → i < n → f i ≡ S.null =
      λ i k. coprime i n (omega (arith, k)) (omega arith) (omega (arith, k)) (f i) (to_null i (omega (arith, k))) (after_null i k) in
      let sum_is : sum_of (suc n) f ≡ f n = ap (λ u. S.plus u (f n)) (sum_of_nulls n f others) ∙ S.null_plus (f n) in
      let last : f n ≡ S.null =
      P.determined (f n) (to_null n (omega arith))
      (S.fewer P.degree (sum_below (suc n) (λ i. (Q i).degree)) (f n) (omega arith)
      (subst (S.Begins (sum_below (suc n) (λ i. (Q i).degree))) sum_is begins)) in
      ⊎_elim (λ e. ap f e ∙ last) (λ ne. others i (omega (arith, h, ne))) (cases_eq i n)

  -- ---- powers

  -- the operator that changes nothing
  abbrev pub identity : Operator S
  identity =
      record {
        act = λ u. u;
        degree = 0;
        of_null = refl;
        of_sum = λ u v. refl;
        of_multiple = λ c u. refl;
        window = λ n u begins. subst (λ k. S.Begins k u) (add-zero n) begins;
        determined = λ u is begins. is;
      }

  -- one operator after another
  abbrev pub after : Operator S → Operator S → Operator S
  after P Q =
      record {
        act = λ u. P.act (Q.act u);
        degree = P.degree + Q.degree;
        of_null = ap P.act Q.of_null ∙ P.of_null;
        of_sum = λ u v. ap P.act (Q.of_sum u v) ∙ P.of_sum (Q.act u) (Q.act v);
        of_multiple = λ c u. ap P.act (Q.of_multiple c u) ∙ P.of_multiple c (Q.act u);
        window = λ n u begins.
            P.window n (Q.act u)
            (Q.window (n + P.degree) u (subst (λ k. S.Begins k u) (sym (add_assoc n P.degree Q.degree)) begins));
        determined = λ u is begins.
            Q.determined u (P.determined (Q.act u) is (Q.window P.degree u begins))
            (S.fewer Q.degree (P.degree + Q.degree) u (omega arith) begins);
      }

  -- an operator applied n times
  abbrev pub power : Operator S → ℕ → Operator S
  power P zero = identity
  power P (suc n) = after P (power P n)

  -- the degree of a power
  pub power_degree : (P : Operator S) (n : ℕ) → (power P n).degree ≡ n * P.degree
  power_degree P zero = sym (zero-mul P.degree)
  power_degree P (suc n) = omega (arith, power_degree P n, suc-mul n P.degree)

  pub commute_sym : (P Q : Operator S) → Commute P Q → Commute Q P
  commute_sym P Q commute u = sym (commute u)

  pub coprime_sym : (P Q : Operator S) → Coprime P Q → Coprime Q P
  coprime_sym P Q coprime u a b = coprime u b a

  pub power_commutes : (P Q : Operator S) → Commute P Q → (n : ℕ) → Commute (power P n) Q
  power_commutes P Q commute zero u = refl
  power_commutes P Q commute (suc n) u = ap P.act (power_commutes P Q commute n u) ∙ commute ((power P n).act u)

  -- powers of operators that commute do
  pub powers_commute : (P Q : Operator S) → Commute P Q → (n k : ℕ) → Commute (power P n) (power Q k)
  powers_commute P Q commute n k =
      power_commutes P (power Q k) (commute_sym (power Q k) P (power_commutes Q P (commute_sym P Q commute) k)) n

  power_coprime : (P Q : Operator S) → Commute P Q → Coprime P Q → (n : ℕ) → Coprime (power P n) Q
  power_coprime P Q commute coprime zero u a b = a
  power_coprime P Q commute coprime (suc n) u a b =
      power_coprime P Q commute coprime n u
      (coprime ((power P n).act u) a (sym (power_commutes P Q commute n u) ∙ ap (power P n).act b ∙ (power P n).of_null)) b

  -- and powers of coprime operators are coprime
  pub powers_coprime : (P Q : Operator S) → Commute P Q → Coprime P Q → (n k : ℕ) → Coprime (power P n) (power Q k)
  powers_coprime P Q commute coprime n k =
      let one : Coprime (power Q k) P = power_coprime Q P (commute_sym P Q commute) (coprime_sym P Q coprime) k in
      power_coprime P (power Q k) (commute_sym (power Q k) P (power_commutes Q P (commute_sym P Q commute) k))
      (coprime_sym (power Q k) P one) n

  -- what a power annihilates, the higher powers annihilate
  pub higher_power_annihilates : (P : Operator S) (n k : ℕ) → n ≤ k → (u : S.Element) → Annihilates (power P n) u → Annihilates (power P k) u
  higher_power_annihilates P n zero h u to_null = let none : n ≡ 0 = omega (arith, h) in subst (λ j. Annihilates (power P j) u) none to_null
  higher_power_annihilates P n (suc k) h u to_null =
      ⊎_elim (λ e. subst (λ j. Annihilates (power P j) u) e to_null)
      (λ ne. ap P.act (higher_power_annihilates P n k (omega (arith, h, ne)) u to_null) ∙ P.of_null) (cases_eq n (suc k))
