-- Sequences of digits over a field, and the polynomials in the shift that act on them: with the shift E, which drops the first
-- term, a polynomial p of degree d takes u to the sequence of p_0 u_l + p_1 u_(l+1) + .. + p_d u_(l+d).
-- They commute, and for different elements b and c, E + b and E + c are coprime. Assumes nothing.
use Rattle.std.proofs.Common.{◌≡◌, ℕ, zero, suc, ◌+◌, ◌-◌, ◌%◌, ◌<◌, sym, refl, ap, ◌∙◌, ap₂, ⊎_elim, mod-lt, mod-eq_of_lt, arith}
use mathlib.Core.Path.{fun_ext}
use mathlib.Core.HLevel.{Π_prop, Σ_prop_path}
use native.Mathlib.Bridge.{le_prop}
use Rattle.std.proofs.lemmas.Bool.{cases_eq, cases_lt}
use Rattle.base.proofs.FieldAlgebra.{product_cancel_left, product_zero_right, sum_cancel_left, sum_over_digit}
use Rattle.base.proofs.FieldAlgebra.{sum_over_same, sum_zero_right, zero_digit}
use Rattle.base.specs.Fields.{FieldLaws, FieldModel, sum_over}
use Rattle.nets.proofs.FieldSums.{sum_over_multiples, sum_over_none, sum_over_sums, sum_over_swapped}
use Rattle.nets.proofs.Operators.{Commute, Coprime, Operator, Space, sum_of}

-- a polynomial over a field by its coefficients, with 1 as the coefficient of its highest power
pub record Monic (F : FieldModel) : Type 0 where
  pub degree : ℕ
  pub coefficient : ℕ → ℕ
  pub digits : (r : ℕ) → coefficient r < F.q
  pub leading : coefficient degree ≡ 1

module _ (F : FieldModel) (laws : FieldLaws F) where
  -- ---- sequences

  -- an element of the field
  abbrev pub Digit : Type 0
  Digit = (a : ℕ) × (a < F.q)

  -- a number as an element of the field: itself where it is a digit
  abbrev pub digit_of : ℕ → Digit
  digit_of a = (a % F.q, mod-lt a (zero_digit F laws))

  pub digit_of_digit : (a : ℕ) → a < F.q → (digit_of a).0 ≡ a
  digit_of_digit a h = mod-eq_of_lt h

  -- digits without end
  abbrev pub Sequence : Type 0
  Sequence = (u : ℕ → ℕ) × ((l : ℕ) → u l < F.q)

  -- sequences with the same terms are equal
  pub same_sequence : (u v : Sequence) → ((l : ℕ) → u.0 l ≡ v.0 l) → u ≡ v
  same_sequence u v same = Σ_prop_path (λ w. Π_prop (λ l. le_prop)) (fun_ext same)

  abbrev zeros : Sequence
  zeros = (λ l. 0, λ l. zero_digit F laws)

  abbrev added : Sequence → Sequence → Sequence
  added u v = (λ l. F.sum (u.0 l) (v.0 l), λ l. laws.sum_digit (u.0 l) (v.0 l) (u.1 l) (v.1 l))

  abbrev multiplied : Digit → Sequence → Sequence
  multiplied c u = (λ l. F.product c.0 (u.0 l), λ l. laws.product_digit c.0 (u.0 l) c.1 (u.1 l))

  -- the space of the sequences, with sums and multiples term by term
  abbrev pub sequences : Space
  sequences =
      record {
        Element = Sequence;
        Scalar = Digit;
        null = zeros;
        plus = added;
        times = multiplied;
        Begins = λ n u. (l : ℕ) → l < n → u.0 l ≡ 0;
        null_plus = λ u. same_sequence (added zeros u) u (λ l. laws.sum_zero (u.0 l) (u.1 l));
        plus_null = λ u. same_sequence (added u zeros) u (λ l. sum_zero_right F laws (u.0 l) (u.1 l));
        times_null = λ c. same_sequence (multiplied c zeros) zeros (λ l. product_zero_right F laws c.0 c.1);
        fewer = λ m n u h begins l k. begins l (omega (arith, h, k));
      }

  -- a sum of sequences, term by term
  pub sum_of_at : (n : ℕ) (f : ℕ → Sequence) (l : ℕ) → (sum_of sequences n f).0 l ≡ sum_over F n (λ i. (f i).0 l)
  sum_of_at zero f l = refl
  sum_of_at (suc n) f l = ap (λ x. F.sum x ((f n).0 l)) (sum_of_at n f l)

  -- ---- polynomials in the shift

  -- a b c = b a c
  product_swapped : (a b c : ℕ) → a < F.q → b < F.q → c < F.q → F.product a (F.product b c) ≡ F.product b (F.product a c)
  product_swapped a b c h k l =
      sym (laws.product_assoc a b c h k l) ∙ ap (λ x. F.product x c) (laws.product_comm a b h k) ∙ laws.product_assoc b a c k h l

  module _ (p : Monic F) where
    -- p_r u_(l+r)
    abbrev pub term : Sequence → ℕ → ℕ → ℕ
    term u l r = F.product (p.coefficient r) (u.0 (l + r))

    pub term_digit : (u : Sequence) (l r : ℕ) → term u l r < F.q
    term_digit u l r = laws.product_digit (p.coefficient r) (u.0 (l + r)) (p.digits r) (u.1 (l + r))

    -- p_0 u_l + p_1 u_(l+1) + .. + p_d u_(l+d)
    abbrev pub value : Sequence → ℕ → ℕ
    value u l = sum_over F (suc p.degree) (term u l)

    abbrev applied : Sequence → Sequence
    applied u = (value u, λ l. sum_over_digit F laws (suc p.degree) (term u l) (λ r h. term_digit u l r))

    -- terms that are 0 add up to 0
    pub zero_terms : (n : ℕ) (u : Sequence) (l : ℕ) → ((r : ℕ) → r < n → u.0 (l + r) ≡ 0) → sum_over F n (term u l) ≡ 0
    zero_terms n u l none =
        sum_over_same F n (term u l) (λ r. 0)
        (λ r h. ap (F.product (p.coefficient r)) (none r h) ∙ product_zero_right F laws (p.coefficient r) (p.digits r))
        ∙ sum_over_none F laws n

    -- sums and multiples, term by term
    pub value_of_sum : (u v : Sequence) (l : ℕ) → value (added u v) l ≡ F.sum (value u l) (value v l)
    value_of_sum u v l =
        sum_over_same F (suc p.degree) (term (added u v) l) (λ r. F.sum (term u l r) (term v l r))
        (λ r h. laws.distributes (p.coefficient r) (u.0 (l + r)) (v.0 (l + r)) (p.digits r) (u.1 (l + r)) (v.1 (l + r)))
        ∙ sum_over_sums F laws (suc p.degree) (term u l) (term v l) (λ r h. term_digit u l r) (λ r h. term_digit v l r)

    pub value_of_multiple : (c : Digit) (u : Sequence) (l : ℕ) → value (multiplied c u) l ≡ F.product c.0 (value u l)
    value_of_multiple c u l =
        sum_over_same F (suc p.degree) (term (multiplied c u) l) (λ r. F.product c.0 (term u l r))
        (λ r h. product_swapped (p.coefficient r) c.0 (u.0 (l + r)) (p.digits r) c.1 (u.1 (l + r)))
        ∙ sum_over_multiples F laws (suc p.degree) c.0 (term u l) c.1 (λ r h. term_digit u l r)

    -- after d terms that are 0, a term is the value there
    value_after_zeros : (u : Sequence) (l : ℕ) → ((r : ℕ) → r < p.degree → u.0 (l + r) ≡ 0) → value u l ≡ u.0 (l + p.degree)
    value_after_zeros u l none =
        let x = u.0 (l + p.degree) in
        ap₂ F.sum (zero_terms p.degree u l none) (ap (λ y. F.product y x) p.leading ∙ laws.product_one x (u.1 (l + p.degree)))
        ∙ laws.sum_zero x (u.1 (l + p.degree))

    -- so a sequence is 0 that begins with d terms 0 and has no value other than 0
    pub zero_below : (u : Sequence) → ((l : ℕ) → value u l ≡ 0) → ((l : ℕ) → l < p.degree → u.0 l ≡ 0) → (n l : ℕ) → l < n → u.0 l ≡ 0
    zero_below u values begins zero l h = elim h [ ]
    zero_below u values begins (suc n) l h =
        let before : (l : ℕ) → l < n → u.0 l ≡ 0 = zero_below u values begins n in
        ⊎_elim
        (λ early. begins l early)
        (λ late.
        let start = l - p.degree in
        let e : l ≡ start + p.degree = omega (arith, late) in
        ap u.0 e ∙ sym (value_after_zeros u start (λ r k. before (start + r) (omega (arith, late, k, h)))) ∙ values start)
        (cases_lt l p.degree)

    -- a polynomial in the shift
    abbrev pub in_shift : Operator sequences
    in_shift =
        record {
          act = applied;
          degree = p.degree;
          of_null = same_sequence (applied zeros) zeros (λ l. zero_terms (suc p.degree) zeros l (λ r h. refl));
          of_sum = λ u v. same_sequence (applied (added u v)) (added (applied u) (applied v)) (value_of_sum u v);
          of_multiple = λ c u. same_sequence (applied (multiplied c u)) (multiplied c (applied u)) (value_of_multiple c u);
          window = λ n u begins l h. zero_terms (suc p.degree) u l (λ r k. begins (l + r) (omega (arith, h, k)));
          determined = λ u is begins.
              same_sequence u zeros (λ l. zero_below u (λ k. ap (λ w. w.0 k) is) begins (suc l) l (omega arith));
        }

  module _ (p r : Monic F) (u : Sequence) (l : ℕ) where
    -- p_i r_j u_(l+i+j)
    abbrev double_term : ℕ → ℕ → ℕ
    double_term i j = F.product (p.coefficient i) (term r u (l + i) j)

    -- the value of p at the values of r, as a double sum
    value_of_values : value p (applied r u) l ≡ sum_over F (suc p.degree) (λ i. sum_over F (suc r.degree) (double_term i))
    value_of_values =
        sum_over_same F (suc p.degree) (term p (applied r u) l) (λ i. sum_over F (suc r.degree) (double_term i))
        (λ i h. sym (sum_over_multiples F laws (suc r.degree) (p.coefficient i) (term r u (l + i)) (p.digits i)
        (λ j k. term_digit r u (l + i) j)))

    -- in the other order
    values_swapped : value p (applied r u) l ≡ sum_over F (suc r.degree) (λ j. sum_over F (suc p.degree) (λ i. double_term i j))
    values_swapped =
        value_of_values
        ∙ sum_over_swapped F laws (suc p.degree) (suc r.degree) double_term
        (λ i j h k. laws.product_digit (p.coefficient i) (term r u (l + i) j) (p.digits i) (term_digit r u (l + i) j))

  -- polynomials in the shift commute
  pub shifts_commute : (p r : Monic F) → Commute sequences (in_shift p) (in_shift r)
  shifts_commute p r u =
      same_sequence (applied p (applied r u)) (applied r (applied p u))
      (λ l.
      values_swapped p r u l
      ∙ sum_over_same F (suc r.degree) (λ j. sum_over F (suc p.degree) (λ i. double_term p r u l i j))
      (λ j. sum_over F (suc p.degree) (double_term r p u l j))
      (λ j h. sum_over_same F (suc p.degree) (λ i. double_term p r u l i j) (double_term r p u l j)
      (λ i k.
      let e : l + i + j ≡ l + j + i = omega arith in
      product_swapped (p.coefficient i) (r.coefficient j) (u.0 (l + i + j)) (p.digits i) (r.digits j) (u.1 (l + i + j))
      ∙ ap (λ n. F.product (r.coefficient j) (F.product (p.coefficient i) (u.0 n))) e))
      ∙ sym (value_of_values r p u l))

  -- ---- polynomials of degree 1

  -- the coefficients of X + b
  abbrev linear_coefficient : ℕ → ℕ → ℕ
  linear_coefficient b zero = b
  linear_coefficient b (suc r) = 1

  pub linear_digits : (b : Digit) (r : ℕ) → linear_coefficient b.0 r < F.q
  linear_digits b zero = b.1
  linear_digits b (suc r) = laws.limits.0

  -- X + b
  abbrev pub linear : Digit → Monic F
  linear b = record { degree = 1; coefficient = linear_coefficient b.0; digits = linear_digits b; leading = refl }

  -- what E + b does
  pub linear_value : (b : Digit) (u : Sequence) (l : ℕ) → value (linear b) u l ≡ F.sum (F.product b.0 (u.0 l)) (u.0 (suc l))
  linear_value b u l =
      let here : l + 0 ≡ l = omega arith in
      let next : l + 1 ≡ suc l = omega arith in
      ap₂ F.sum
      (laws.sum_zero (term (linear b) u l 0) (term_digit (linear b) u l 0) ∙ ap (λ k. F.product b.0 (u.0 k)) here)
      (laws.product_one (u.0 (l + 1)) (u.1 (l + 1)) ∙ ap u.0 next)

  -- if b x + y = c x + y for different b and c, x is 0
  equal_multiples : (b c x y : ℕ) → b < F.q → c < F.q → x < F.q → y < F.q → (b ≡ c → ⊥)
      → F.sum (F.product b x) y ≡ F.sum (F.product c x) y → x ≡ 0
  equal_multiples b c x y hb hc hx hy different same =
      let bx = laws.product_digit b x hb hx in
      let cx = laws.product_digit c x hc hx in
      let products : F.product b x ≡ F.product c x =
      sum_cancel_left F laws y (F.product b x) (F.product c x) hy bx cx
      (laws.sum_comm y (F.product b x) hy bx ∙ same ∙ laws.sum_comm (F.product c x) y cx hy) in
      ⊎_elim (λ e. e)
      (λ ne.
      let no = different (product_cancel_left F laws x b c hx ne hb hc (laws.product_comm x b hx hb ∙ products ∙ laws.product_comm c x hc hx)) in
      elim no [ ])
      (cases_eq x 0)

  -- for different b and c, E + b and E + c are coprime
  pub linear_coprime : (b c : Digit) → (b.0 ≡ c.0 → ⊥) → Coprime sequences (in_shift (linear b)) (in_shift (linear c))
  linear_coprime b c different u by_b by_c =
      same_sequence u zeros
      (λ l. equal_multiples b.0 c.0 (u.0 l) (u.0 (suc l)) b.1 c.1 (u.1 l) (u.1 (suc l)) different
      (sym (linear_value b u l) ∙ ap (λ w. w.0 l) by_b ∙ sym (ap (λ w. w.0 l) by_c) ∙ linear_value c u l))
