-- Tests in turn: none of them finds a fault if none does at any place, and the first place with a fault gives its refusal.
-- So it is with bytes that should be digits.
-- Assumes nothing.
use Rattle.std.proofs.Common.{ℕ, zero, suc, ◌+◌, ◌<◌, ◌≤◌, List, [], ◌∷◌, ◌++◌, length, get_or, sym, refl, subst, inl, inr, ⊎_elim, arith}
use Rattle.std.proofs.lemmas.Bool.{cases_eq}
use Rattle.base.specs.Digits.{AllDigits, FirstBad, digit_tests}
use Rattle.base.specs.Faults.{Refusal, refusal}
use Rattle.base.specs.Tests.{Test, test, Clean, Refused, in_turn}

pub clean_append : (xs ys : List Test) → Clean xs → Clean ys → Clean (xs ++ ys)
clean_append [] ys a b = b
clean_append (x ∷ xs) ys a b = (a.0, clean_append xs ys a.1 b)

-- a refusal by the first part of the tests
pub refused_left : (xs ys : List Test) (r : Refusal) → Refused xs r → Refused (xs ++ ys) r
refused_left [] ys r a = absurd a
refused_left (x ∷ xs) ys r a = ⊎_elim (λ h. inl h) (λ h. inr (h.0, refused_left xs ys r h.1)) a

-- a refusal by the second part, where the first finds no fault
pub refused_right : (xs ys : List Test) (r : Refusal) → Clean xs → Refused ys r → Refused (xs ++ ys) r
refused_right [] ys r a b = b
refused_right (x ∷ xs) ys r a b = inr (a.0, refused_right xs ys r a.1 b)

pub clean_in_turn : (at : ℕ → List Test) (a n : ℕ) → ((i : ℕ) → a ≤ i → i < a + n → Clean (at i)) → Clean (in_turn at a n)
clean_in_turn at a zero h = tt
clean_in_turn at a (suc n) h =
    clean_append (at a) (in_turn at (suc a) n) (h a (omega arith) (omega arith))
    (clean_in_turn at (suc a) n (λ i low high. h i (omega arith) (omega arith)))

pub refused_in_turn : (at : ℕ → List Test) (a n i : ℕ) (r : Refusal) → a ≤ i → i < a + n
    → ((k : ℕ) → a ≤ k → k < i → Clean (at k)) → Refused (at i) r → Refused (in_turn at a n) r
refused_in_turn at a zero i r low high before here = absurd (omega arith)
refused_in_turn at a (suc n) i r low high before here =
    ⊎_elim
    (λ e. refused_left (at a) (in_turn at (suc a) n) r (subst (λ k. Refused (at k) r) (sym e) here))
    (λ ne. refused_right (at a) (in_turn at (suc a) n) r (before a (omega arith) (omega arith))
    (refused_in_turn at (suc a) n i r (omega arith) (omega arith) (λ k l h. before k (omega arith) h) here))
    (cases_eq a i)

-- the test of one byte
abbrev digit_test : ℕ → ℕ → List ℕ → ℕ → List Test
digit_test q layer bytes i = test (q ≤ get_or bytes i 0) (refusal 7 layer 255 i) ∷ []

pub digits_clean : (q layer : ℕ) (bytes : List ℕ) → AllDigits q bytes → Clean (digit_tests q layer bytes)
digits_clean q layer bytes all =
    clean_in_turn (digit_test q layer bytes) 0 (length bytes) (λ i low high. (λ bad. omega (arith, all i (omega arith)), tt))

pub digits_refused : (q layer : ℕ) (bytes : List ℕ) (i : ℕ) → FirstBad q bytes i
    → Refused (digit_tests q layer bytes) (refusal 7 layer 255 i)
digits_refused q layer bytes i found =
    refused_in_turn (digit_test q layer bytes) 0 (length bytes) i (refusal 7 layer 255 i) (omega arith)
    (omega (arith, found.within)) (λ k low high. (λ bad. omega (arith, found.first k high), tt)) (inl (found.bad, refl))
