use Rattle.std.proofs.Common.{sym}
use Rattle.history.specs.Steps.{reopens}
use Rattle.history.proofs.Lent.{reopen_refused_by}
use Rattle.history.proofs.steps.reopen_framed.Goals as goal

pub returns-in-Ok : goal.returns-in-Ok
returns-in-Ok g c = λ gs. let e = c.in-Ok.ensures in reopens (sym e.answer) e.table.0 e.table.1

pub returns-in-Err : goal.returns-in-Err
returns-in-Err g c = λ gs. let e = c.in-Err.ensures in reopen_refused_by _ _ _ _ _ _ _ _ _ _ e.answer e.table.0 e.table.1
