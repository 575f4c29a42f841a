-- The law over every list of calls. Along a history the table stays the one that was opened; so what each call hands out is a point
-- of that table, and each verdict is the first t whose splits pass. The theorem of blocks does the rest. Assumes nothing.
use Rattle.std.proofs.Common.{◌≡◌, ℕ, ◌+◌, ◌*◌, ◌^◌, ◌<◌, ◌≤◌, List, [], ◌∷◌, map, sym, refl, ap, ◌∙◌, subst, subst₂, ⊎_elim, arith}
use Rattle.std.proofs.lemmas.List.FromFn.{fill_by_all, get_or-map-range_with_len, length-map-range_with_len}
use Rattle.std.proofs.lemmas.Bool.{cases_lt}
use Rattle.std.specs.List.{range_with_len}
use Rattle.base.specs.Blocks.{Fit, TableOver, block_points}
use Rattle.base.specs.Independence.{AllPass, FirstPassing}
use Rattle.base.specs.Nets.{Least, Net}
use Rattle.base.specs.Tables.{TableModel}
use Rattle.base.specs.Tests.{Refused}
use Rattle.nets.proofs.BlockNets.{least_t_is_the_first}
use Rattle.nets.proofs.ZeroNets.{faure_tables_have_t_zero_spec, single_sobol_tables_have_t_zero_spec}
use Rattle.run.specs.Law.{Answered, HandedOut, HandsOut, History, Law, LawOfHistories, Log}
use Rattle.run.specs.Runs.{Answer, Answers, Parts, View, at_accepted, call_refused, call_tests, jump_accepted, least, opened, point_of, step_accepted, verdict_accepted}
use Rattle.run.specs.declared.replay.Call.{Call}
use Rattle.run.specs.declared.replay.Call.TheVariants.{Verdict}

-- 0 is not 1
clash : ◌≡◌ {A = ℕ} 0 1 → {X : Type 0} → X
clash e = absurd (omega (arith, e))

-- ---- one call

-- what a call of an open run says of the table, by its answer
pub record OneCall (P : Parts) (T : TableModel) (c : Call) (a : Answer) (w : View) : Type 0 where
  pub stays : (p : ℕ) × (w ≡ opened T p)
  pub hands : (n : ℕ) (xs : List ℕ) → HandsOut (c, a) n xs → xs ≡ point_of P T n
  pub tells : (m t : ℕ) → c ≡ Verdict m → a ≡ least t → (m ≤ T.digits) × FirstPassing P.field T m t
  pub accepts : (m : ℕ) → m ≤ T.digits → c ≡ Verdict m → (t : ℕ) × (a ≡ least t)

one_call : (P : Parts) (T : TableModel) (p : ℕ) (v : View) (c : Call) (a : Answer) (w : View) → v ≡ opened T p → Answers P v c a w → OneCall P T c a w
one_call P T p v c a w e (step_accepted U k room clean) =
    let same : U ≡ T = cc in
    record {
      stays = (k + 1, ap (λ U. opened U (k + 1)) same);
      hands = λ n xs. ⊎_elim
          (λ by_step.
          let told = by_step.2.1 in
          let point_is : point_of P U k ≡ xs = cc in
          let position_is : k ≡ n = cc in
          sym point_is ∙ ap (point_of P U) position_is ∙ ap (λ U. point_of P U n) same)
          (λ by_at. let told = by_at.1.0 in let no_step : ◌≡◌ {A = ℕ} 0 1 = cc in clash no_step);
      tells = λ m t call_is answer_is. let no_step : ◌≡◌ {A = ℕ} 0 1 = cc in clash no_step;
      accepts = λ m h call_is. let no_step : ◌≡◌ {A = ℕ} 0 1 = cc in clash no_step;
    }
one_call P T p v c a w e (jump_accepted U k n clean) =
    let same : U ≡ T = cc in
    record {
      stays = (n, ap (λ U. opened U n) same);
      hands = λ n xs. ⊎_elim
          (λ by_step. let told = by_step.2.0 in let no_jump : ◌≡◌ {A = ℕ} 0 1 = cc in clash no_jump)
          (λ by_at. let told = by_at.1.0 in let no_jump : ◌≡◌ {A = ℕ} 0 1 = cc in clash no_jump);
      tells = λ m t call_is answer_is. let no_jump : ◌≡◌ {A = ℕ} 0 1 = cc in clash no_jump;
      accepts = λ m h call_is. let no_jump : ◌≡◌ {A = ℕ} 0 1 = cc in clash no_jump;
    }
one_call P T p v c a w e (at_accepted U k n room clean) =
    let same : U ≡ T = cc in
    record {
      stays = (k, ap (λ U. opened U k) same);
      hands = λ i xs. ⊎_elim
          (λ by_step. let told = by_step.2.0 in let no_at : ◌≡◌ {A = ℕ} 0 1 = cc in clash no_at)
          (λ by_at.
          let told = by_at.1.1 in
          let call_is = by_at.1.0 in
          let point_is : point_of P U n ≡ xs = cc in
          let position_is : n ≡ i = cc in
          sym point_is ∙ ap (point_of P U) position_is ∙ ap (λ U. point_of P U i) same);
      tells = λ m t call_is answer_is. let no_at : ◌≡◌ {A = ℕ} 0 1 = cc in clash no_at;
      accepts = λ m h call_is. let no_at : ◌≡◌ {A = ℕ} 0 1 = cc in clash no_at;
    }
one_call P T p v c a w e (verdict_accepted U k m t clean first) =
    let same : U ≡ T = cc in
    record {
      stays = (k, ap (λ U. opened U k) same);
      hands = λ i xs. ⊎_elim
          (λ by_step. let told = by_step.2.0 in let no_verdict : ◌≡◌ {A = ℕ} 0 1 = cc in clash no_verdict)
          (λ by_at. let told = by_at.1.0 in let no_verdict : ◌≡◌ {A = ℕ} 0 1 = cc in clash no_verdict);
      tells = λ n u call_is answer_is.
          let m_is : m ≡ n = cc in
          let t_is : t ≡ u = cc in
          let inside : m ≤ U.digits = omega (arith, clean.0) in
          subst (λ U. (n ≤ U.digits) × FirstPassing P.field U n u) same
          (subst₂ (λ n u. (n ≤ U.digits) × FirstPassing P.field U n u) m_is t_is (inside, first));
      accepts = λ n h call_is. (t, refl);
    }
one_call P T p v c a w e (call_refused u d r why) =
    record {
      stays = (p, e);
      hands = λ i xs. ⊎_elim
          (λ by_step. let told = by_step.2.1 in let no_refusal : ◌≡◌ {A = ℕ} 0 1 = cc in clash no_refusal)
          (λ by_at. let told = by_at.1.1 in let no_refusal : ◌≡◌ {A = ℕ} 0 1 = cc in clash no_refusal);
      tells = λ m t call_is answer_is. let no_refusal : ◌≡◌ {A = ℕ} 0 1 = cc in clash no_refusal;
      accepts = λ m h call_is.
          let found : Refused (call_tests (opened T p) (Verdict m)) r = subst₂ (λ v c. Refused (call_tests v c) r) e call_is why in
          ⊎_elim (λ past. absurd (omega (arith, past.0, h))) (λ none. absurd none.1) found;
    }

-- ---- every call of a history

-- what all calls of a history say of the table
pub record EveryCall (P : Parts) (T : TableModel) (h : Log) : Type 0 where
  pub hands : (n : ℕ) (xs : List ℕ) → HandedOut h n xs → xs ≡ point_of P T n
  pub tells : (m t : ℕ) → Answered h m (least t) → (m ≤ T.digits) × FirstPassing P.field T m t
  pub accepts : (m : ℕ) → m ≤ T.digits → (a : Answer) → Answered h m a → (t : ℕ) × (a ≡ least t)

every_call : (P : Parts) (T : TableModel) (h : Log) (p : ℕ) (v w : View) → v ≡ opened T p → History P v h w → EveryCall P T h
every_call P T [] p v w e history =
    record { hands = λ n xs none. elim none [ ]; tells = λ m t none. elim none [ ]; accepts = λ m l a none. elim none [ ] }
every_call P T (call ∷ h) p v w e history =
    let here = one_call P T p v call.0 call.1 history.0 e history.1 in
    let later = every_call P T h here.stays.0 history.0 w here.stays.1 history.2 in
    record {
      hands = λ n xs. ⊎_elim (here.hands n xs) (later.hands n xs);
      tells = λ m t. ⊎_elim (λ now. here.tells m t now.0 now.1) (later.tells m t);
      accepts = λ m l a. ⊎_elim
          (λ now. let told = here.accepts m l now.0 in (told.0, sym now.1 ∙ told.1))
          (later.accepts m l a);
    }

-- ---- the law

-- where t = 0 passes, the first that passes is 0
first_is_zero : (P : Parts) (T : TableModel) (m t : ℕ) → AllPass P.field T m 0 → FirstPassing P.field T m t → t ≡ 0
first_is_zero P T m t passes first =
    ⊎_elim (λ more. let found = first.fails 0 more in absurd (found.2 (passes found.0 found.1))) (λ none. omega (arith, none)) (cases_lt 0 t)

module _ (P : Parts) (T : TableModel) (over : TableOver P.field T) (fit : Fit P.order P.scrambler T) (h : Log) (every : EveryCall P T h) where
  -- the chosen points of a block are the points of its positions
  chosen_points : (m b : ℕ) (chosen : ℕ → List ℕ) → ((r : ℕ) → r < T.q ^ m → HandedOut h (b * T.q ^ m + r) (chosen r))
      → map chosen (range_with_len 0 (T.q ^ m)) ≡ block_points P.field P.order P.scrambler T m b
  chosen_points m b chosen handed =
      let n = T.q ^ m in
      let first = b * T.q ^ m in
      sym (fill_by_all chosen (block_points P.field P.order P.scrambler T m b) n [] (length-map-range_with_len (point_of P T) first n)
      (λ r l. get_or-map-range_with_len (point_of P T) first n r (first + r) [] l refl ∙ sym (every.hands (first + r) (chosen r) (handed r l))))

  pub law_of_calls : Law P T h
  law_of_calls =
      record {
        points = every.hands;
        blocks = λ m b block chosen handed t answered.
            subst (λ points. Least (λ u. Net T.q T.digits T.coordinates u m points) t) (sym (chosen_points m b chosen handed))
            ((least_t_is_the_first P.field T over m block.0).2 t (every.tells m t answered).1 P.order P.scrambler fit b block);
        faure = λ clean same m t answered.
            let few : T.coordinates ≤ P.field.q = omega (arith, clean.1.0) in
            let told = every.tells m t answered in
            first_is_zero P T m t ((faure_tables_have_t_zero_spec P.field over.laws T.digits T.coordinates few T same).0 m told.0) told.1;
        sobol = λ list clean one same m t answered.
            let told = every.tells m t answered in
            first_is_zero P T m t
            ((single_sobol_tables_have_t_zero_spec P.field over.laws (over.q ∙ same.q) list T.digits clean one T same).0 m told.0) told.1;
        verdicts = every.accepts;
      }

pub law_of_histories : (P : Parts) (T : TableModel) → TableOver P.field T → Fit P.order P.scrambler T → LawOfHistories P T
law_of_histories P T over fit h w history = law_of_calls P T over fit h (every_call P T h 0 (opened T 0) w refl history)
