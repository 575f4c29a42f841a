-- Two scramblers of the same numbers, one after the other, keep the laws of a scrambler.
-- Assumes nothing.
use Rattle.std.specs.Prelude.{◌≡◌, ℕ, ◌≤◌, Bool, true, false, cond, List, ◌==◌, refl}
use Rattle.std.proofs.Common.{◌∙◌}
use Rattle.std.proofs.Math.Path.{ap}
use Rattle.std.proofs.lemmas.Bool.{and_parts, eqb-true}
use Rattle.base.specs.Scramblers.{ScramblerLaws, ScramblerModel, Scrambles}
use Rattle.scramblers.specs.Chain.{chain_scrambler, same_shape}

-- the chain, with the answer of the test of its numbers
chain_if : Bool → ScramblerModel → ScramblerModel → ScramblerModel
chain_if t A B =
    record {
      q = A.q;
      digits = A.digits;
      coordinates = A.coordinates;
      scramble = λ j word. cond t (B.scramble j (A.scramble j word)) (A.scramble j word);
    }

-- two scramblers of the same numbers
module _ (A B : ScramblerModel) (same : same_shape A B ≡ true) (a : ScramblerLaws A) (b : ScramblerLaws B) where
  same_q : A.q ≡ B.q
  same_q = eqb-true _ _ (and_parts _ _ same).0

  same_digits : A.digits ≡ B.digits
  same_digits = eqb-true _ _ (and_parts _ _ (and_parts (A.q == B.q) _ same).1).0

  same_coordinates : A.coordinates ≡ B.coordinates
  same_coordinates = eqb-true _ _ (and_parts (A.digits == B.digits) _ (and_parts (A.q == B.q) _ same).1).1

  -- the result of the first is a word for the second
  word_between : (j : ℕ) (u : List ℕ) → Scrambles A j u → Scrambles B j (A.scramble j u)
  word_between j u h = rw (← same_q, ← same_digits, ← same_coordinates) (h.0, a.words j u h)

  chain_of_same_keeps_laws : ScramblerLaws (chain_if true A B)
  unfolding chain_if
  chain_of_same_keeps_laws =
      let within : (k : ℕ) → k ≤ A.digits → k ≤ B.digits = λ k l. rw (← same_digits) l in
      record {
        limits = a.limits;
        words = λ j u h. rw (same_q, same_digits) (b.words j (A.scramble j u) (word_between j u h));
        prefix = λ j k u v l m hu hv agree.
            b.prefix j k (A.scramble j u) (A.scramble j v) l (within k m) (word_between j u hu) (word_between j v hv)
            (a.prefix j k u v l m hu hv agree);
        prefix_back = λ j k u v l m hu hv agree.
            a.prefix_back j k u v l m hu hv
            (b.prefix_back j k (A.scramble j u) (A.scramble j v) l (within k m) (word_between j u hu) (word_between j v hv) agree);
        outside = λ j u none.
            ap (B.scramble j) (a.outside j u none) ∙ b.outside j u (λ h. none (rw (same_q, same_digits, same_coordinates) h));
      }

chain_if_keeps_laws : (t : Bool) (A B : ScramblerModel) → same_shape A B ≡ t → ScramblerLaws A → ScramblerLaws B
    → ScramblerLaws (chain_if t A B)
unfolding chain_if
chain_if_keeps_laws true A B same a b = chain_of_same_keeps_laws A B same a b
chain_if_keeps_laws false A B same a b = a

pub chain_keeps_laws : (A B : ScramblerModel) → ScramblerLaws A → ScramblerLaws B → ScramblerLaws (chain_scrambler A B)
unfolding chain_if
chain_keeps_laws A B = chain_if_keeps_laws (same_shape A B) A B refl
