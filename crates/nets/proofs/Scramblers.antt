-- Scramblers on leading digits: read as numbers below q^k, the first k digits of a result depend on the first k digits of
-- the word alone, different ones on different ones; so every k digits are reached. Assumes nothing.
use Rattle.std.proofs.Common.{◌≡◌, ℕ, zero, suc, ◌+◌, ◌-◌, ◌^◌, ◌<◌, ◌≤◌, List, [], ◌∷◌, ◌++◌, take, replicate, sym, refl, ap, ◌∙◌, subst, ap₂, arith}
use Rattle.std.proofs.lemmas.List.{get_or-take, length-append, length-take-le, take_at}
use Rattle.base.specs.Digits.{AllDigits}
use Rattle.base.specs.Points.{numerator}
use Rattle.base.specs.Scramblers.{ScramblerLaws, ScramblerModel, Scrambles, Word}
use Rattle.nets.specs.Leading.{Matched, ScramblersPermuteCells}
use Rattle.nets.proofs.Counting.{Permutes, onto}
use Rattle.nets.proofs.Numbers.{number_of_word_of, word_cons, word_number_below, word_of_number, word_of_number_of, word_of}

pub word_of_zeros : (q k : ℕ) → 1 ≤ q → Word q k (replicate k 0)
word_of_zeros q zero some = (refl, λ i h. elim h [ ])
word_of_zeros q (suc k) some = word_cons q k 0 (replicate k 0) some (word_of_zeros q k some)

digits_joined : (q : ℕ) (u v : List ℕ) → AllDigits q u → AllDigits q v → AllDigits q (u ++ v)
digits_joined q [] v a b i h = b i h
digits_joined q (x ∷ u) v a b zero h = a 0 (omega arith)
digits_joined q (x ∷ u) v a b (suc i) h = digits_joined q u v (λ n l. a (suc n) (omega (arith, l))) b i (omega (arith, h))

pub words_joined : (q k l : ℕ) (u v : List ℕ) → Word q k u → Word q l v → Word q (k + l) (u ++ v)
words_joined q k l u v a b = (length-append u v ∙ ap₂ ◌+◌ a.0 b.0, digits_joined q u v a.1 b.1)

pub word_taken : (q M k : ℕ) (w : List ℕ) → k ≤ M → Word q M w → Word q k (take k w)
word_taken q M k w h a =
    let size = length-take-le k w (omega (arith, h, a.0)) in
    (size, λ i l. rw (get_or-take k w i 0 (omega (arith, l, size))) (a.1 i (omega (arith, l, size, h, a.0))))

-- two words of k digits that are read as the same number are the same
pub same_number : (q k : ℕ) (u v : List ℕ) → Word q k u → Word q k v → numerator q u ≡ numerator q v → u ≡ v
same_number q k u v a b e = sym (word_of_number_of q k u a) ∙ ap (word_of q k) e ∙ word_of_number_of q k v b

module _ (S : ScramblerModel) (laws : ScramblerLaws S) (j k : ℕ) (inside : j < S.coordinates) (within : k ≤ S.digits) where
  -- a word of M digits that begins with u
  abbrev pub padded : List ℕ → List ℕ
  padded u = u ++ replicate (S.digits - k) 0

  some : 1 ≤ S.q
  some = omega (arith, laws.limits.0.0)

  pub padded_scrambles : (u : List ℕ) → Word S.q k u → Scrambles S j (padded u)
  padded_scrambles u a = (
    inside,
    subst (λ M. Word S.q M (padded u)) (omega (arith, within))
        (words_joined S.q k (S.digits - k) u (replicate (S.digits - k) 0) a (word_of_zeros S.q (S.digits - k) some)),
  )

  pub padded_taken : (u : List ℕ) → Word S.q k u → take k (padded u) ≡ u
  padded_taken u a = take_at u (replicate (S.digits - k) 0) k a.0

  -- the first k digits of a result
  abbrev pub result : List ℕ → List ℕ
  result u = take k (S.scramble j (padded u))

  pub result_word : (u : List ℕ) → Word S.q k u → Word S.q k (result u)
  result_word u a = word_taken S.q S.digits k (S.scramble j (padded u)) within (laws.words j (padded u) (padded_scrambles u a))

  pub result_matched : 1 ≤ k → (u : List ℕ) → Word S.q k u → Matched S j k u (result u)
  result_matched one u a =
      record {
        forth = λ x h e. laws.prefix j k x (padded u) one within h (padded_scrambles u a) (e ∙ sym (padded_taken u a));
        back = λ x h e. laws.prefix_back j k x (padded u) one within h (padded_scrambles u a) e ∙ padded_taken u a;
      }

  -- as numbers below q^k
  abbrev pub result_number : ℕ → ℕ
  result_number n = numerator S.q (result (word_of S.q k n))

  pub result_permutes : 1 ≤ k → Permutes (S.q ^ k) result_number
  result_permutes one =
      record {
        below = λ n h. word_number_below S.q k (result (word_of S.q k n)) (result_word (word_of S.q k n) (word_of_number S.q k n some h));
        one_to_one = λ n i h l e.
            let a = word_of_number S.q k n some h in
            let b = word_of_number S.q k i some l in
            let same = same_number S.q k (result (word_of S.q k n)) (result (word_of S.q k i))
            (result_word (word_of S.q k n) a) (result_word (word_of S.q k i) b) e in
            let words = sym (padded_taken (word_of S.q k n) a)
            ∙ (result_matched one (word_of S.q k i) b).back (padded (word_of S.q k n)) (padded_scrambles (word_of S.q k n) a) same in
            sym (number_of_word_of S.q k n some h) ∙ ap (numerator S.q) words ∙ number_of_word_of S.q k i some l;
      }

  pub result_reached : 1 ≤ k → (w : List ℕ) → Word S.q k w → (u : List ℕ) × Word S.q k u × (result u ≡ w)
  result_reached one w a =
      let found = onto (S.q ^ k) result_number (result_permutes one) (numerator S.q w) (word_number_below S.q k w a) in
      let u = word_of S.q k found.0 in
      let b = word_of_number S.q k found.0 some found.1 in
      (u, b, same_number S.q k (result u) w (result_word u b) a found.2)

no_digits_lem : (q : ℕ) (w : List ℕ) → Word q 0 w → w ≡ []
no_digits_lem q [] a = refl
no_digits_lem q (x ∷ w) a = let no : 1 ≤ 0 = omega (arith, a.0) in elim no [ ]

matched_none : (S : ScramblerModel) (j : ℕ) → Matched S j 0 [] []
matched_none S j = record { forth = λ x h e. refl; back = λ x h e. refl }

pub scramblers_permute_cells_spec : ScramblersPermuteCells
scramblers_permute_cells_spec S laws j zero inside within = (
  (λ w a. ([], (refl, λ i h. elim h [ ]), subst (Matched S j 0 []) (sym (no_digits_lem S.q w a)) (matched_none S j))),
  (λ u a. ([], (refl, λ i h. elim h [ ]), subst (λ v. Matched S j 0 v []) (sym (no_digits_lem S.q u a)) (matched_none S j))),
)
scramblers_permute_cells_spec S laws j (suc k) inside within = (
  (λ w a.
      let found = result_reached S laws j (suc k) inside within (omega arith) w a in
      (found.0, found.1, subst (Matched S j (suc k) found.0) found.2 (result_matched S laws j (suc k) inside within (omega arith) found.0 found.1))),
  (λ u a.
      (result S laws j (suc k) inside within u, result_word S laws j (suc k) inside within u a, result_matched S laws j (suc k) inside within (omega arith) u a)),
)
