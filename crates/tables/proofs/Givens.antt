-- What a record gives, read off its bytes. Assumes nothing.
use Rattle.std.proofs.Common.{◌≡◌, ℕ, ◌+◌, ◌-◌, ◌*◌, ◌%◌, ◌^◌, ◌<◌, ◌≤◌, ◌↔◌, List, length, get_or, drop, sym, ap, ◌∙◌, subst, ⊎_elim, add-one, arith}
use native.Mathlib.Nat.{pow-succ'}
use Rattle.std.proofs.lemmas.List.{get_or-drop, get_or_past, length-drop}
use Rattle.std.proofs.lemmas.Bool.{cases_lt}
use Rattle.tables.specs.Directions.{Admissible}
use Rattle.tables.specs.Given.{GivenBy, OddAndSmall}
use Rattle.tables.specs.Primitive.{Primitive}
use Rattle.tables.specs.Record.{Head, HeadOf, Layout, TailOf, degree, given, initial, pair, polynomial}
use Rattle.tables.specs.declared.record.Given.{Given}
use Rattle.tables.specs.declared.record.Parts.{Parts}
use Rattle.tables.specs.Parts.{TakenApart}

-- the numbers two bytes at a time, and 0 past the last
pub numbers_by_pairs : (bytes numbers : List ℕ) → length bytes ≡ 16 → length numbers ≡ 8
    → ((k : ℕ) → k < 8 → get_or numbers k 0 ≡ pair bytes (2 * k)) → (i : ℕ) → get_or numbers (i - 1) 0 ≡ given bytes i
numbers_by_pairs bytes numbers size eight are i =
    ⊎_elim (λ low. are (i - 1) low)
    (λ past.
    get_or_past numbers (i - 1) 0 (omega (arith, eight))
    ∙ sym (let low : get_or bytes (2 * (i - 1)) 0 ≡ 0 = get_or_past bytes (2 * (i - 1)) 0 (omega (arith, size)) in
    let high : get_or bytes (2 * (i - 1) + 1) 0 ≡ 0 = get_or_past bytes (2 * (i - 1) + 1) 0 (omega (arith, size)) in
    omega arith))
    (cases_lt (i - 1) 8)

double : (i : ℕ) → 1 ≤ i → 2 * 2 ^ (i - 1) ≡ 2 ^ i
double i some = let e : i ≡ i - 1 + 1 = omega arith in sym (subst (λ n. 2 ^ n ≡ 2 * 2 ^ (i - 1)) (sym (e ∙ add-one (i - 1))) (pow-succ' 2 (i - 1)))

pub given_below : (g : Given) (i : ℕ) → 1 ≤ i → i ≤ g.polynomial.degree → OddAndSmall g → get_or g.numbers (i - 1) 0 < 2 ^ i
given_below g i some within odd = omega (arith, (odd (i - 1) (omega arith)).1, double i some)

pub given_is_admissible : (bytes : List ℕ) (g : Given) → GivenBy bytes g → OddAndSmall g ↔ Admissible (degree bytes) (initial bytes)
given_is_admissible bytes g is = (
  λ odd i some within.
      let low : i ≤ g.polynomial.degree = omega (arith, is.degree_is) in
      let odd_is : get_or g.numbers (i - 1) 0 % 2 ≡ 1 = (odd (i - 1) (omega arith)).0 in
      (rw (is.numbers_are i) at odd_is, rw (is.numbers_are i) at (given_below g i some low odd)),
  λ admissible k low.
      let told = admissible (k + 1) (omega arith) (omega (arith, is.degree_is)) in
      let e : k ≡ k + 1 - 1 = omega arith in
      let here : get_or g.numbers k 0 ≡ initial bytes (k + 1) = ap (λ n. get_or g.numbers n 0) e ∙ is.numbers_are (k + 1) in
      (rw here told.0, omega (arith, here, told.1, double (k + 1) (omega arith), ap (λ n. 2 ^ n) e)),
)

-- the numbers past m_d are 0 exactly if those from place d on are
pub tail_from_zeros : (d : ℕ) (bytes numbers : List ℕ) → d ≤ 8 → length numbers ≡ 8
    → ((i : ℕ) → get_or numbers (i - 1) 0 ≡ given bytes i)
    → ((k : ℕ) → k < length (drop d numbers) → get_or (drop d numbers) k 0 ≡ 0) ↔ TailOf d bytes
tail_from_zeros d bytes numbers small eight are = (
  λ zeros i past within.
      let k = i - 1 - d in
      let e : d + k ≡ i - 1 = omega arith in
      sym (are i) ∙ ap (λ n. get_or numbers n 0) (sym e) ∙ sym (get_or-drop d numbers k 0) ∙ zeros k (omega (arith, length-drop d numbers, eight)),
  λ tail k low.
      let e : d + k ≡ d + k + 1 - 1 = omega arith in
      get_or-drop d numbers k 0 ∙ ap (λ n. get_or numbers n 0) e ∙ are (d + k + 1)
      ∙ tail (d + k + 1) (omega arith) (omega (arith, low, length-drop d numbers, eight)),
)

-- with a sound head and 16 bytes of numbers, a record keeps the layout exactly if the numbers from place degree on are 0
pub record Parted (bytes numbers last : List ℕ) : Type 0 where
  pub layout : ((k : ℕ) → k < length last → get_or last k 0 ≡ 0) ↔ Layout bytes
  pub numbers_are : (i : ℕ) → get_or numbers (i - 1) 0 ≡ initial bytes i

pub parted : (bytes : List ℕ) (p : Parts) (rest numbers last : List ℕ) → TakenApart bytes p → rest ≡ p.numbers.now → length rest ≡ 16
    → length numbers ≡ 8 → ((k : ℕ) → k < 8 → get_or numbers k 0 ≡ pair rest (2 * k)) → last ≡ drop p.degree numbers
    → HeadOf p.degree p.zero p.polynomial → Parted bytes numbers last
parted bytes p rest numbers last apart is sixteen eight pairs last_is head =
    let rest_is : rest ≡ drop 4 bytes = is ∙ apart.numbers_are in
    let size : length bytes ≡ 20 = omega (arith, apart.enough, sixteen, ap length rest_is, length-drop 4 bytes) in
    let head' : Head bytes = rw (apart.degree_is, apart.zero_is, apart.polynomial_is) at head in
    let are = numbers_by_pairs rest numbers sixteen eight pairs in
    let tail : ((k : ℕ) → k < length last → get_or last k 0 ≡ 0) ↔ TailOf (degree bytes) (drop 4 bytes) =
    rw (last_is, ← apart.degree_is, ← rest_is) (tail_from_zeros p.degree rest numbers head.0 eight are) in
    record {
      layout = (λ zeros. (size, head', tail.0 zeros), λ layout. tail.1 layout.2);
      numbers_are = rw rest_is at are;
    }

-- the test of its polynomial finds no fault where the given one is primitive, unless its degree is 0
pub polynomial_passes : (bytes : List ℕ) (g : Given) → GivenBy bytes g → (1 ≤ g.polynomial.degree → Primitive g.polynomial.degree g.polynomial.bits)
    → (1 ≤ degree bytes) × (Primitive (degree bytes) (polynomial bytes) → ⊥) → ⊥
polynomial_passes bytes g is primitive fails =
    fails.1 (rw (is.degree_is, is.polynomial_is) at (primitive (omega (arith, fails.0, is.degree_is))))
