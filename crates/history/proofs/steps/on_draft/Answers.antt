use Rattle.std.proofs.Common.{arith}
use Rattle.std.proofs.lemmas.List.{with_items_is}
use Rattle.history.specs.Steps.{puts, turned_away}
use Rattle.history.proofs.Lent.{asked_as, frames_settled, offers_settled, turned_from_draft}
use Rattle.history.proofs.steps.on_draft.Goals as goal

pub returns-in-Put : goal.returns-in-Put
returns-in-Put g c = asked_as _ _ _ _ _ _ _ _ _ c.in-Put.is (puts c.put.ensures)

pub returns-in-Frame : goal.returns-in-Frame
returns-in-Frame g c =
    let call = c.frame.ensures in
    asked_as _ _ _ _ _ _ _ _ _ c.in-Frame.is
    (frames_settled _ _ _ _ _ c.frame.result _ _ _ _ _ _ _ _ _ c.deref_mut.ensures.value (with_items_is c.in-Frame.work c.frame.new.work (omega arith)) c.settle-design.ensures call.granted call.refused)

pub returns-in-Offer : goal.returns-in-Offer
returns-in-Offer g c =
    let call = c.offer.ensures in
    asked_as _ _ _ _ _ _ _ _ _ c.in-Offer.is
    (offers_settled _ _ _ _ _ c.offer.result _ _ _ _ _ _ _ _ _ _ _ c.deref.ensures.value c.deref_mut-in-Offer.ensures.value (with_items_is c.in-Offer.work c.offer.new.work (omega arith)) c.settle-design-in-Offer.ensures call.granted call.refused)

pub returns-in_default : goal.returns-in_default
returns-in_default g c = turned_away (turned_from_draft c.args.draft c.args.request c.in_default.not-Put c.in_default.not-Frame c.in_default.not-Offer)
