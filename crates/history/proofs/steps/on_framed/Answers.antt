use Rattle.std.proofs.Common.{refl, arith}
use Rattle.std.proofs.lemmas.List.{with_items_is}
use Rattle.history.specs.Steps.{turned_away}
use Rattle.history.proofs.Lent.{answered_as, encodes_lent, checks_lent, inverts_lent, turned_from_framed}
use Rattle.history.proofs.steps.on_framed.Goals.{in-Encode, in-Check, in-Invert, in_default}
use Rattle.history.proofs.steps.on_framed.Goals as goal

pub returns : goal.returns
returns g c =
    elim c.match-request.branch [
      | in-Encode w ↦
          let call = w.encode.ensures in
          answered_as _ _ _ _ _ _ _ _ _ _ w.in-Encode.is w.answer-is
          (encodes_lent _ _ _ _ _ _ _ _ _ _ _ _ _ _ w.deref.ensures.value w.deref_mut.ensures.value (with_items_is w.in-Encode.block w.encode.new.block (omega arith))
          (record { answer = call.answer; written = call.written; encodes = call.encodes }))
      | in-Check w ↦
          let call = w.check.ensures in
          answered_as _ _ _ _ _ _ _ _ _ _ w.in-Check.is w.answer-is
          (checks_lent _ _ _ _ _ _ _ _ _ _ w.deref-in-Check.ensures.value (record { answer = call.answer; clean = call.clean; encoded = call.encoded }))
      | in-Invert w ↦
          let call = w.invert.ensures in
          answered_as _ _ _ _ _ _ _ _ _ _ w.in-Invert.is w.answer-is
          (inverts_lent _ _ _ _ _ _ _ _ _ _ _ _ _ _ w.deref-in-Invert.ensures.value w.deref_mut-in-Invert.ensures.value (with_items_is w.in-Invert.message w.invert.new.message (omega arith))
          (record { answer = call.answer; written = call.written; home = call.home; changes = call.changes }))
      | in_default w ↦
          answered_as _ _ _ _ _ _ _ _ _ _ refl w.answer-is
          (turned_away (turned_from_framed c.args.framed c.args.request w.in_default.not-Reopen w.in_default.not-Encode w.in_default.not-Check w.in_default.not-Invert))
    ]
