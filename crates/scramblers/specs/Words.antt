-- Words of digits. The test `scrambles` decides in which of them a scrambler has a say, so what it does to a word is known.
-- Assumes nothing.
use Rattle.std.specs.Prelude.{◌≡◌, ℕ, ◌<◌, Bool, true, false, not, List, [], ◌∷◌, ◌++◌, length, take, is_some, Some, None, Decides, Option, MatchOption, nat_lt, refl}
use Rattle.std.proofs.Common.{sym, ◌∙◌, arith}
use Rattle.std.proofs.ByRecursion.{All-from_get_or, All-get_or, All-push, All-take, Decides-by_and}
use Rattle.std.proofs.lemmas.Bool.{both_ways, cond_both, cond-true, not-false, not-true, true≢false}
use Rattle.std.proofs.lemmas.Bool.Decides.{Decides-and, Decides-eqb, Decides-like, Decides-ltb, same_from_decides}
use Rattle.std.specs.List.{AllByRecursion}
use Rattle.base.specs.Digits.{AllDigits, FirstBad}
use Rattle.base.specs.Scramblers.{Word}
use Rattle.scramblers.specs.Prefix.{scrambler_of}
use Rattle.scramblers.specs.Shapes.{all_below, scrambles}

module _ (q : ℕ) where
  digits_from_all : (word : List ℕ) → AllByRecursion (λ a. a < q) word → AllDigits q word
  digits_from_all word all i l = All-get_or (λ a. a < q) word i 0 l all

  all_from_digits : (word : List ℕ) → AllDigits q word → AllByRecursion (λ a. a < q) word
  all_from_digits word = All-from_get_or (λ a. a < q) word 0

  pub digits_rest : (a : ℕ) (word : List ℕ) → AllDigits q (a ∷ word) → AllDigits q word
  digits_rest a word all = digits_from_all word (all_from_digits (a ∷ word) all).1

  pub digits_take : (n : ℕ) (word : List ℕ) → AllDigits q word → AllDigits q (take n word)
  digits_take n word all = digits_from_all (take n word) (All-take (λ a. a < q) n word (all_from_digits word all))

  pub digits_push : (word : List ℕ) (a : ℕ) → AllDigits q word → a < q → AllDigits q (word ++ a ∷ [])
  digits_push word a all h = digits_from_all (word ++ a ∷ []) (All-push (λ b. b < q) word a (all_from_digits word all) h)

  all_below_decides : (word : List ℕ) → Decides (all_below q word) (AllDigits q word)
  all_below_decides word =
      Decides-like (all_below q word) (digits_from_all word) (all_from_digits word)
      (Decides-by_and (λ a. nat_lt a q) (λ a. a < q) (all_below q) (λ a. Decides-ltb a q) refl (λ _ _. refl) word)

  -- a search for the first byte that is no digit tells whether all are
  pub none_bad_decides : (word : List ℕ) (o : Option ℕ) (r : Bool) → MatchOption o (AllDigits q word) (FirstBad q word) → is_some o ≡ not r
      → Decides r (AllDigits q word)
  none_bad_decides word None r all e = (λ _. all, λ _. not-false r (sym e))
  none_bad_decides word (Some i) r found e = (
    λ t. absurd (both_ways r (not-true r (sym e)) t),
    λ all. absurd (omega (arith, all i found.within, found.bad)),
  )

module _ (q M s j : ℕ) (word : List ℕ) where
  pub scrambles_decides : Decides (scrambles q M s j word) ((j < s) × Word q M word)
  scrambles_decides = Decides-and _ _ (Decides-ltb j s) (Decides-and _ _ (Decides-eqb (length word) M) (all_below_decides q word))

  pub word_from_test : true ≡ scrambles q M s j word → (j < s) × Word q M word
  word_from_test e = scrambles_decides.0 (sym e)

  -- where the coordinate and the length are right, the digits alone tell
  pub scrambles_by_digits : (r : Bool) → j < s → length word ≡ M → Decides r (AllDigits q word) → r ≡ scrambles q M s j word
  scrambles_by_digits r h size d =
      same_from_decides r (scrambles q M s j word) (Decides-like r (λ all. (h, (size, all))) (λ k. k.1.1) d) scrambles_decides

  pub scrambled_within : (f : ℕ → List ℕ → List ℕ) → (j < s) × Word q M word → (scrambler_of q M s f).scramble j word ≡ f j word
  scrambled_within f h = cond-true _ _ _ (scrambles_decides.1 h)

  pub scrambled_outside : (f : ℕ → List ℕ → List ℕ) → ((j < s) × Word q M word → ⊥) → (scrambler_of q M s f).scramble j word ≡ word
  scrambled_outside f none =
      cond_both (scrambles q M s j word) (f j word) word (λ w. w ≡ word) (λ t. absurd (none (scrambles_decides.0 t))) (λ _. refl)

  -- a word that the test of words takes is scrambled
  pub done_within : (f : ℕ → List ℕ → List ℕ) (r : Bool) → Decides r ((j < s) × Word q M word) → r ≡ true → f j word ≡ (scrambler_of q M s f).scramble j word
  done_within f r told on = sym (scrambled_within f (told.0 on))

  -- a word that the test of words refuses stays
  pub left_outside : (f : ℕ → List ℕ → List ℕ) (r : Bool) → Decides r ((j < s) × Word q M word) → r ≡ false → word ≡ (scrambler_of q M s f).scramble j word
  left_outside f r told off = sym (scrambled_outside f (λ h. true≢false (sym (told.1 h) ∙ off)))
