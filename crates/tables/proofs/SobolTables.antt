-- The bits of direction numbers are the digits of the Sobol' table. Assumes nothing.
use Rattle.std.proofs.Common.{◌≡◌, ℕ, ◌+◌, ◌-◌, ◌/◌, ◌%◌, ◌^◌, ◌≤◌, cond, leb, List, length, [], get_or, sym, ap, ◌∙◌, arith}
use lib.Bits.{bit_and, and_mask}
use Rattle.std.proofs.lemmas.Bool.{cond-true, le-leb}
use Rattle.base.specs.Tables.{Inside, SameTable, TableModel}
use Rattle.tables.specs.Sobol.{NumbersUpTo, sobol_digit, sobol_table}

pub shifted_bit_is_digit : (n k l : ℕ) → k ≤ l + 1 → bit_and (n / 2 ^ (l + 1 - k)) 1 ≡ sobol_digit (λ _. n) k l
shifted_bit_is_digit n k l h =
    and_mask (n / 2 ^ (l + 1 - k)) 1 ∙ sym (cond-true (leb k (l + 1)) (n / 2 ^ (l + 1 - k) % 2) 0 (le-leb k (l + 1) h))

-- the table of the direction numbers of a list is the table of the list
pub table_of_list : (list : List ℕ) (M : ℕ) (all : List (List ℕ)) (t : TableModel) → M ≤ 32 → NumbersUpTo list (length list / 20) all
    → t.q ≡ 2 → t.digits ≡ M → t.coordinates ≡ length list / 20
    → ((j k l : ℕ) → Inside M (length list / 20) j k l → t.entry j k l ≡ sobol_digit (λ i. get_or (get_or all j []) (i - 1) 0) k l)
    → SameTable t (sobol_table list M)
table_of_list list M all t narrow numbers q digits coordinates entries =
    record {
      q = q;
      digits = digits;
      coordinates = coordinates;
      entry = λ j k l inside.
          let within : Inside M (length list / 20) j k l = rw (digits, coordinates) at inside in
          entries j k l within
          ∙ ap (λ m. cond (leb k (l + 1)) (m / 2 ^ (l + 1 - k) % 2) 0)
          ((numbers j within.coordinate).are (l + 1) (omega arith) (omega (arith, within.column)));
    }
