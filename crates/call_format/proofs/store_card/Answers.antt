use mathlib.Core.List.{[], ◌∷◌}
use Rattle.std.proofs.lemmas.Result.{err_from_is_err_and}
use Rattle.model.specs.Sector.{store}
use Rattle.model.proofs.Runs.{spent_then, spent_stop}
use Rattle.formatting.specs.Fresh.{fresh_boot}
use Rattle.call_format.specs.Formed.{fields_in, rest_stores}
use Rattle.call_format.proofs.store_card.Goals as goal

pub returns-in_err-store_tables : goal.returns-in_err-store_tables
unfolding rest_stores
returns-in_err-store_tables c =
    let p = err_from_is_err_and c.from_residual-in_err-store_tables.result c.from_residual-in_err-store_tables.ensures.1 in
    rw (p.1, p.2) (spent_then c.in_ok-store_zeros.was c.store_zeros.ensures
    (spent_stop c.in_err-store_tables.was c.store_tables.ensures (store 0 (fresh_boot (fields_in c.args.l)) ∷ [])))

pub returns : goal.returns
unfolding rest_stores
returns c =
    spent_then c.in_ok-store_zeros.was c.store_zeros.ensures
    (spent_then c.in_ok-store_tables.was c.store_tables.ensures c.store_boot.ensures)
