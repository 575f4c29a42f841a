-- Accepted direction lists: where no test of a list finds a fault, the polynomial of each record has the lowest coefficient 1, and
-- its given numbers are odd and below 2^i. Assumes nothing.
use Rattle.std.proofs.Common.{◌≡◌, ℕ, zero, suc, ◌+◌, ◌/◌, ◌%◌, ◌^◌, ◌<◌, ◌≤◌, List, [], ◌∷◌, ◌++◌, length, subst, ⊎_elim, arith}
use Rattle.std.proofs.lemmas.Bool.{cases_eq, cases_lt}
use Rattle.base.specs.Tests.{Clean, Test, in_turn}
use Rattle.tables.proofs.Reading.{tests_of}
use Rattle.tables.specs.Directions.{Admissible}
use Rattle.tables.specs.Record.{degree, initial, polynomial}
use Rattle.tables.specs.Sobol.{record_of, sobol_tests}

-- the parts of tests that find no fault
pub clean_parts : (xs ys : List Test) → Clean (xs ++ ys) → Clean xs × Clean ys
clean_parts [] ys clean = (tt, clean)
clean_parts (x ∷ xs) ys clean = let parts = clean_parts xs ys clean.1 in ((clean.0, parts.0), parts.1)

-- one place of tests in turn that find no fault
pub clean_at_place : (at : ℕ → List Test) (a n : ℕ) → Clean (in_turn at a n) → (i : ℕ) → a ≤ i → i < a + n → Clean (at i)
clean_at_place at a zero clean i low high = absurd (omega (arith, low, high))
clean_at_place at a (suc n) clean i low high =
    let parts = clean_parts (at a) (in_turn at (suc a) n) clean in
    ⊎_elim (λ e. subst (λ k. Clean (at k)) e parts.0)
    (λ ne. clean_at_place at (suc a) n parts.1 i (omega (arith, low, ne)) (omega (arith, high))) (cases_eq a i)

module _ (list : List ℕ) (M : ℕ) (accepted : Clean (sobol_tests list M)) (j : ℕ) (here : j < length list / 20) where
  record_clean : Clean (tests_of list j)
  record_clean = clean_at_place (tests_of list) 0 (length list / 20) accepted.1.1.1 j (omega arith) (omega (arith, here))

  pub lowest_coefficient_one : polynomial (record_of list j) % 2 ≡ 1
  lowest_coefficient_one =
      ⊎_elim (λ e. e) (λ ne. absurd (record_clean.0 (λ layout. ne layout.1.3))) (cases_eq (polynomial (record_of list j) % 2) 1)

  pub given_numbers_admissible : Admissible (degree (record_of list j)) (initial (record_of list j))
  given_numbers_admissible i low high =
      let m = initial (record_of list j) i in (
        ⊎_elim (λ e. e) (λ ne. absurd (record_clean.1.1.0 (λ all. ne (all i low high).0))) (cases_eq (m % 2) 1),
        ⊎_elim (λ h. h) (λ past. absurd (record_clean.1.1.0 (λ all. omega (arith, (all i low high).1, past)))) (cases_lt m (2 ^ i)),
      )
