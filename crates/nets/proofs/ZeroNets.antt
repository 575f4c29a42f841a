-- Blocks with t = 0: where every split passes, every block of points is a net for t = 0, by the theorem of blocks. So it is for
-- Faure tables and for Sobol' tables of one coordinate. Assumes nothing.
use Rattle.std.proofs.Common.{◌-◌, ◌<◌, [], ◌∷◌, get_or, sym, ◌∙◌, subst, arith}
use Rattle.base.specs.Blocks.{TableOver}
use Rattle.base.specs.Fields.{FieldModel}
use Rattle.base.specs.Tables.{TableModel}
use Rattle.tables.specs.Directions.{direction_of}
use Rattle.tables.specs.Faure.{poly_power}
use Rattle.tables.specs.Sobol.{record_of, sobol_digit, sobol_table}
use Rattle.tables.proofs.Powers.{power_digits}
use Rattle.nets.specs.Zero.{EveryBlockIsZeroNet, EverySplitPasses, FaureTablesHaveTZero, SingleSobolTablesHaveTZero}
use Rattle.nets.proofs.BlockNets.{block_is_net_exactly}
use Rattle.nets.proofs.FaureRows.{faure_tables_pass}
use Rattle.nets.proofs.SameTables.{same_tables_every_split}
use Rattle.nets.proofs.SobolDigits.{sobol_digit_below}
use Rattle.nets.proofs.SobolRows.{single_sobol_splits_pass}

-- where every split passes, every block is a net for t = 0
passing_blocks : (F : FieldModel) (T : TableModel) → TableOver F T → EverySplitPasses F T → EveryBlockIsZeroNet F T
passing_blocks F T over passes O S fit m b block =
    (block_is_net_exactly F O S T over fit m b 0 block (omega arith)).1 (passes m block.0)

pub faure_tables_have_t_zero_spec : FaureTablesHaveTZero
faure_tables_have_t_zero_spec F laws M s few T same =
    let passes = faure_tables_pass F laws M s few T same in (
      passes,
      passing_blocks F T
          (record {
            laws = laws;
            q = sym same.q;
            digits = λ j k l inside. subst (λ x. x < T.q) (sym (same.entry j k l inside))
                (subst (λ q. get_or (poly_power F (j ∷ 1 ∷ []) l) (k - 1) 0 < q) (sym same.q)
                (power_digits F laws j (omega (arith, inside.coordinate, same.coordinates, few)) l (k - 1)));
          }) passes,
    )

pub single_sobol_tables_have_t_zero_spec : SingleSobolTablesHaveTZero
single_sobol_tables_have_t_zero_spec F laws two list M accepted one T same =
    let passes = same_tables_every_split F T (sobol_table list M) same
    (λ m within counts split. single_sobol_splits_pass F laws two list M accepted one m within counts (split.0, omega (arith, split.1))) in (
      passes,
      passing_blocks F T
          (record {
            laws = laws;
            q = two ∙ sym same.q;
            digits = λ j k l inside. subst (λ x. x < T.q) (sym (same.entry j k l inside))
                (subst (λ q. sobol_digit (direction_of (record_of list j)) k l < q) (sym same.q) (sobol_digit_below (direction_of (record_of list j)) k l));
          }) passes,
    )
