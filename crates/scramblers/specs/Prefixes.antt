-- Scrambling digit by digit, each from the digits read before it, keeps the laws of a scrambler if the rule of each place
-- permutes the digits; and it can be done in place.
-- Assumes nothing.
use Rattle.std.specs.Prelude.{◌≡◌, ℕ, zero, suc, ◌+◌, ◌<◌, ◌≤◌, ◌≢◌, List, [], ◌∷◌, ◌++◌, length, take, slice_index, slice_set, refl}
use Rattle.std.proofs.Common.{sym, ◌∙◌, ap, ap₂, arith, below_more}
use Rattle.std.proofs.lemmas.List.{append_assoc, append-nil, ext_get_or, get_or-set_other, get_or-set_same, length_push, length-set, length-take}
use Rattle.base.specs.Digits.{AllDigits}
use Rattle.base.specs.Scramblers.{ScramblerLaws, Word}
use Rattle.base.specs.Tables.{Limits}
use Rattle.scramblers.specs.Prefix.{by_prefix, scrambler_of}
use Rattle.scramblers.specs.Words.{digits_push, digits_rest, digits_take, scrambled_outside, scrambled_within}

-- ---- the digits of a result

module _ (rule : List ℕ → ℕ → ℕ) where
  length_by_prefix : (before u : List ℕ) → length (by_prefix rule before u) ≡ length u
  length_by_prefix before [] = refl
  length_by_prefix before (a ∷ u) = ap suc (length_by_prefix (before ++ a ∷ []) u)

  take_by_prefix : (k : ℕ) (before u : List ℕ) → take k (by_prefix rule before u) ≡ by_prefix rule before (take k u)
  take_by_prefix zero before u = refl
  take_by_prefix (suc k) before [] = refl
  take_by_prefix (suc k) before (a ∷ u) = ap (λ w. rule before a ∷ w) (take_by_prefix k (before ++ a ∷ []) u)

  get_or_by_prefix : (before u : List ℕ) (k : ℕ) → k < length u
      → slice_index (by_prefix rule before u) k ≡ rule (before ++ take k u) (slice_index u k)
  get_or_by_prefix before [] k h = absurd (omega arith)
  get_or_by_prefix before (a ∷ u) zero h = ap (λ w. rule w a) (sym (append-nil before))
  get_or_by_prefix before (a ∷ u) (suc k) h =
      get_or_by_prefix (before ++ a ∷ []) u k (omega arith) ∙ ap (λ w. rule w (slice_index u k)) (append_assoc before (a ∷ []) (take k u))

-- ---- the laws

-- different words have different results, where the rule of each place makes different digits different
by_prefix_injective : (q M : ℕ) (rule : List ℕ → ℕ → ℕ)
    → ((before : List ℕ) (a b : ℕ) → length before < M → AllDigits q before → a < q → b < q → rule before a ≡ rule before b → a ≡ b)
    → (before u v : List ℕ) → length before + length u ≤ M → AllDigits q before → AllDigits q u → AllDigits q v
    → by_prefix rule before u ≡ by_prefix rule before v → u ≡ v
by_prefix_injective q M rule injective before [] [] room all du dv same = refl
by_prefix_injective q M rule injective before [] (b ∷ v) room all du dv same = absurd (omega (arith, ap length same))
by_prefix_injective q M rule injective before (a ∷ u) [] room all du dv same = absurd (omega (arith, ap length same))
by_prefix_injective q M rule injective before (a ∷ u) (b ∷ v) room all du dv same =
    let heads : rule before a ≡ rule before b = cc in
    let small : a < q = du 0 (omega arith) in
    let head : a ≡ b = injective before a b (omega arith) all small (dv 0 (omega arith)) heads in
    let tails : by_prefix rule (before ++ a ∷ []) u ≡ by_prefix rule (before ++ a ∷ []) v = cc in
    ap₂ ◌∷◌ head
    (by_prefix_injective q M rule injective (before ++ a ∷ []) u v (omega (arith, length_push before a)) (digits_push q before a all small)
    (digits_rest q a u du) (digits_rest q b v dv) tails)

-- words go to words, where the rule of each place makes digits of digits
by_prefix_word : (q M : ℕ) (rule : List ℕ → ℕ → ℕ)
    → ((before : List ℕ) (a : ℕ) → length before < M → AllDigits q before → a < q → rule before a < q)
    → (u : List ℕ) → Word q M u → Word q M (by_prefix rule [] u)
by_prefix_word q M rule digit u word =
    let size = length_by_prefix rule [] u in (
      size ∙ word.0,
      λ i l.
          let within : i < length u = omega arith in
          rw (get_or_by_prefix rule [] u i within)
          (digit (take i u) (slice_index u i) (omega (arith, length-take i u)) (digits_take q i u word.1) (word.1 i within)),
    )

-- a scrambler that does as the rule says on the words that it has a say in, and leaves the others
pub prefix_rule_laws : (q M s : ℕ) (rule : ℕ → List ℕ → ℕ → ℕ) (scramble : ℕ → List ℕ → List ℕ) → Limits q M s
    → ((j : ℕ) (u : List ℕ) → j < s → Word q M u → scramble j u ≡ by_prefix (rule j) [] u)
    → ((j : ℕ) (u : List ℕ) → ((j < s) × Word q M u → ⊥) → scramble j u ≡ u)
    → ((j : ℕ) (before : List ℕ) (a : ℕ) → j < s → length before < M → AllDigits q before → a < q → rule j before a < q)
    → ((j : ℕ) (before : List ℕ) (a b : ℕ) → j < s → length before < M → AllDigits q before → a < q → b < q → rule j before a ≡ rule j before b → a ≡ b)
    → ScramblerLaws (record { q = q; digits = M; coordinates = s; scramble = scramble })
prefix_rule_laws q M s rule scramble limits agrees leaves digit injective =
    let first : (j k : ℕ) (u : List ℕ) → (j < s) × Word q M u → take k (scramble j u) ≡ by_prefix (rule j) [] (take k u) =
    λ j k u h. ap (take k) (agrees j u h.0 h.1) ∙ take_by_prefix (rule j) k [] u in
    record {
      limits = limits;
      words = λ j u h.
          rw (agrees j u h.0 h.1) (by_prefix_word q M (rule j) (λ before a. digit j before a h.0) u h.1);
      prefix = λ j k u v _ _ hu hv agree. first j k u hu ∙ ap (by_prefix (rule j) []) agree ∙ sym (first j k v hv);
      prefix_back = λ j k u v _ _ hu hv agree.
          by_prefix_injective q M (rule j) (λ before a b. injective j before a b hu.0) [] (take k u) (take k v)
          (omega (arith, length-take k u)) (λ i l. absurd (omega arith)) (digits_take q k u hu.1.1) (digits_take q k v hv.1.1)
          (sym (first j k u hu) ∙ agree ∙ first j k v hv);
      outside = leaves;
    }

-- the same of a scrambler with its test of words
pub prefix_rule_keeps_laws : (q M s : ℕ) (rule : ℕ → List ℕ → ℕ → ℕ) (f : ℕ → List ℕ → List ℕ) → Limits q M s
    → ((j : ℕ) (u : List ℕ) → j < s → Word q M u → f j u ≡ by_prefix (rule j) [] u)
    → ((j : ℕ) (before : List ℕ) (a : ℕ) → j < s → length before < M → AllDigits q before → a < q → rule j before a < q)
    → ((j : ℕ) (before : List ℕ) (a b : ℕ) → j < s → length before < M → AllDigits q before → a < q → b < q → rule j before a ≡ rule j before b → a ≡ b)
    → ScramblerLaws (scrambler_of q M s f)
prefix_rule_keeps_laws q M s rule f limits agrees =
    prefix_rule_laws q M s rule (scrambler_of q M s f).scramble limits
    (λ j u h word. scrambled_within q M s j u f (h, word) ∙ agrees j u h word) (λ j u none. scrambled_outside q M s j u f none)

-- where the rule is to keep the digit, the word stays
pub kept_by_prefix : (before u : List ℕ) → by_prefix (λ _ a. a) before u ≡ u
kept_by_prefix before [] = refl
kept_by_prefix before (a ∷ u) = ap (λ w. a ∷ w) (kept_by_prefix (before ++ a ∷ []) u)

-- ---- in place

-- the first n digits of the word u are scrambled, and the others are as they were
pub record ScrambledUpTo (rule : List ℕ → ℕ → ℕ) (n : ℕ) (u word : List ℕ) : Type 0 where
  pub size : length word ≡ length u
  pub done : (k : ℕ) → k < n → slice_index word k ≡ rule (take k u) (slice_index u k)
  pub left : (k : ℕ) → n ≤ k → slice_index word k ≡ slice_index u k

module _ (rule : List ℕ → ℕ → ℕ) where
  pub scrambled_more : (n : ℕ) (u word : List ℕ) (x : ℕ) → n < length u → x ≡ rule (take n u) (slice_index word n)
      → ScrambledUpTo rule n u word → ScrambledUpTo rule (n + 1) u (slice_set word n x)
  scrambled_more n u word x h is so_far =
      let within : n < length word = omega (arith, so_far.size) in
      record {
        size = length-set word n x ∙ so_far.size;
        done = below_more (λ k. slice_index (slice_set word n x) k ≡ rule (take k u) (slice_index u k)) n
            (λ k l. let other : k ≢ n = omega arith in rw get_or-set_other (so_far.done k l))
            (rw get_or-set_same (is ∙ ap (rule (take n u)) (so_far.left n (omega arith))));
        left = λ k l. let other : k ≢ n = omega arith in rw get_or-set_other (so_far.left k (omega arith));
      }

  pub scrambled_all : (n : ℕ) (u word : List ℕ) → length u ≤ n → ScrambledUpTo rule n u word → word ≡ by_prefix rule [] u
  scrambled_all n u word h so_far =
      ext_get_or 0 word (by_prefix rule [] u) (so_far.size ∙ sym (length_by_prefix rule [] u))
      (λ i l.
      let within : i < length u = omega (arith, so_far.size) in
      so_far.done i (omega arith) ∙ sym (get_or_by_prefix rule [] u i within))
