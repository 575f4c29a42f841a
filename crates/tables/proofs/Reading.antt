-- Reading a list record by record: what holds after the first n records, one record more, and the end of the list.
-- Assumes nothing.
use Rattle.std.proofs.Common.{◌≡◌, ℕ, ◌+◌, ◌*◌, ◌/◌, ◌%◌, ◌<◌, ◌≤◌, ◌≢◌, List, [], length, get_or, set, Some, None, Ok, Err, Option, sym, refl, ap, ◌∙◌, subst, ap₂, subst₂, inl, ⊎_elim, arith, below_more}
use mathlib.Core.Path.{subst₃}
use Rattle.std.proofs.lemmas.List.{length-set, get_or-set_same, get_or-set_other}
use Rattle.std.proofs.lemmas.Bool.{cases_eq, cases_lt}
use Rattle.base.proofs.Testing.{clean_in_turn, refused_in_turn}
use Rattle.base.specs.declared.faults.Fault.{Fault}
use Rattle.base.specs.Faults.{Refusal, refusal, stated}
use Rattle.base.specs.Tests.{Test, Clean, Refused}
use Rattle.tables.specs.declared.record.Record.{Record}
use Rattle.tables.specs.Directions.{Numbers, record_tests}
use Rattle.tables.specs.Reader.{Next, Stands, Whole, record_at}
use Rattle.tables.specs.Record.{Layout}
use Rattle.tables.specs.Sobol.{NumbersUpTo, record_of, records_tests}

-- the tests of the record of coordinate j
abbrev pub tests_of : List ℕ → ℕ → List Test
tests_of list j = record_tests (record_of list j) j (20 * j)

-- a list in which the first test finds no fault is whole
pub whole_from_clean : (list : List ℕ) → ((Whole list → ⊥) → ⊥) → Whole list
whole_from_clean list h = (
  ⊎_elim (λ some. some) (λ none. absurd (h (λ whole. omega (arith, whole.0)))) (cases_lt 0 (length list)),
  ⊎_elim (λ e. e) (λ ne. absurd (h (λ whole. ne whole.1))) (cases_eq (length list % 20) 0),
)

-- the first n records are read: no fault is in them, their direction numbers are known, and the place is that of the next
pub record ReadUpTo (list : List ℕ) (n place : ℕ) (all : List (List ℕ)) : Type 0 where
  pub next : place ≡ 20 * n
  pub within : place ≤ length list
  pub rows : length all ≡ 8
  pub clean : (j : ℕ) → j < n → Clean (tests_of list j)
  pub numbers : NumbersUpTo list n all

-- `here` is the list as the reader holds it, and `after` the reader's place after its answer
module _ (list here : List ℕ) (n place after : ℕ) (all : List (List ℕ)) (same : here ≡ list) (so_far : ReadUpTo list n place all) where
  below_count : Stands list place → n < length list / 20
  below_count stands = omega (arith, so_far.next)

  -- a fault of the next record is a fault of the list
  refused_here : (x : Refusal) → Stands list place → Refused (tests_of list n) x → Refused (records_tests list) x
  refused_here x stands h =
      refused_in_turn (tests_of list) 0 (length list / 20) n x (omega arith) (omega (arith, below_count stands))
      (λ k low high. so_far.clean k high) h

  pub refused_layout : (f : Fault) → Next here place (Err f) after → Refused (records_tests list) (stated f)
  refused_layout f answer =
      let h : Next list place (Err f) after = subst (λ xs. Next xs place (Err f) after) same answer in
      refused_here (stated f) h.0
      (inl (
        λ l. h.1 (subst (λ p. Layout (record_at list p)) (sym so_far.next) l),
        h.2 ∙ ap₂ (refusal 4 1) (omega (arith, so_far.next)) so_far.next,
      ))

  -- the answer o handed out the record r
  module _ (o : Option Record) (r : Record) (is : o ≡ Some r) (answer : Next here place (Ok o) after) where
    told : Next list place (Ok (Some r)) after
    told = subst₂ (λ xs x. Next xs place (Ok x) after) same is answer

    record_is : r.bytes.now ≡ record_of list n
    unfolding told
    record_is = told.2 ∙ ap (record_at list) so_far.next

    -- what holds by the tests of the record that was handed out holds by those of coordinate n
    as_coordinate : (P : List Test → Type 0) → P (record_tests r.bytes.now r.coordinate r.place) → P (tests_of list n)
    unfolding told
    as_coordinate P h =
        subst₃ (λ b c p. P (record_tests b c p)) record_is (told.3 ∙ omega (arith, so_far.next)) (told.4 ∙ so_far.next) h

    pub refused_record : (x : Refusal) → Refused (record_tests r.bytes.now r.coordinate r.place) x → Refused (records_tests list) x
    unfolding told
    refused_record x h = refused_here x told.0 (as_coordinate (λ tests. Refused tests x) h)

    pub read_more : (ms : List ℕ) → Clean (record_tests r.bytes.now r.coordinate r.place) → Numbers r.bytes.now ms
        → ReadUpTo list (after / 20) after (set all r.coordinate ms)
    unfolding told
    read_more ms clean numbers =
        let room : n < length all = omega (arith, told.0.0, so_far.next, so_far.rows) in
        let at : r.coordinate ≡ n = told.3 ∙ omega (arith, so_far.next) in
        let more : after / 20 ≡ n + 1 = omega (arith, told.5, so_far.next) in
        rw (at, more)
        (record {
          next = omega (arith, told.5, so_far.next);
          within = omega (arith, told.5, told.0.1);
          rows = length-set all n ms ∙ so_far.rows;
          clean = below_more (λ i. Clean (tests_of list i)) n so_far.clean (as_coordinate Clean clean);
          numbers = below_more (λ i. Numbers (record_of list i) (get_or (set all n ms) i [])) n
              (λ i h. let ne : i ≢ n = omega arith in rw get_or-set_other (so_far.numbers i h))
              (rw get_or-set_same (subst (λ b. Numbers b ms) record_is numbers));
        })

  pub read_all : (o : Option Record) → Whole list → length list ≤ 160 → ((r : Record) → o ≡ Some r → ⊥) → Next here place (Ok o) after
      → Clean (records_tests list) × NumbersUpTo list (length list / 20) all
  read_all None whole few none answer =
      let h : Next list place (Ok None) after = subst (λ xs. Next xs place (Ok None) after) same answer in
      let end : n ≡ length list / 20 =
      ⊎_elim (λ low. absurd (h.0 (omega (arith, so_far.next), omega (arith, so_far.next))))
      (λ past. omega (arith, so_far.next, so_far.within)) (cases_lt n (length list / 20)) in (
        clean_in_turn (tests_of list) 0 (length list / 20) (λ i low high. so_far.clean i (omega arith)),
        subst (λ k. NumbersUpTo list k all) end so_far.numbers,
      )
  read_all (Some r) whole few none answer = absurd (none r refl)
