use Rattle.std.proofs.Common.{arith, ◌∙◌}
use Rattle.cm_site.proofs.Allowed.{none_joined}
use Rattle.cm_site.proofs.topology.replaced.Goals as goal

pub reply_of-reply-requires : goal.reply_of-reply-requires
reply_of-reply-requires g c = (c.each_topology_is_sound.ensures c.args.text.now c.args.topology c.requires.said).limits

pub replace-requires-clause-settled : goal.replace-requires-clause-settled
replace-requires-clause-settled g c = c.requires.settled

pub replace-requires-clause-said : goal.replace-requires-clause-said
replace-requires-clause-said g c = c.requires.said

pub replace-requires-clause-fits : goal.replace-requires-clause-fits
replace-requires-clause-fits g c = c.requires.fits

pub replace-requires-clause-number : goal.replace-requires-clause-number
replace-requires-clause-number g c = let other = c.requires.number in let most = c.tells.ensures.number in omega (arith, other, most)

pub replace-requires-clause-room : goal.replace-requires-clause-room
replace-requires-clause-room g c = let room = c.requires.room in omega (arith, room)

pub returns-in-Ok-clause-replies : goal.returns-in-Ok-clause-replies
returns-in-Ok-clause-replies g c =
    let was = c.args.records.now in
    c.reply_of-reply.ensures ∙ none_joined c.args.text.now c.args.topology c.args.minute was.kept was.kept.topology was.kept.number c.tells.ensures.alone

pub returns-in-Ok-clause-done : goal.returns-in-Ok-clause-done
returns-in-Ok-clause-done g c = c.in-Ok.ensures.done

pub returns-in-Ok-clause-either : goal.returns-in-Ok-clause-either
returns-in-Ok-clause-either g c = c.replace.ensures.either

pub returns-in-Ok-clause-any_moment : goal.returns-in-Ok-clause-any_moment
returns-in-Ok-clause-any_moment g c = c.replace.ensures.any_moment

pub returns-in-Ok-clause-opens : goal.returns-in-Ok-clause-opens
returns-in-Ok-clause-opens g c = c.tells-in-Ok.ensures.opens

pub returns-in-Ok-clause-start : goal.returns-in-Ok-clause-start
returns-in-Ok-clause-start g c = c.replace.ensures.start

pub returns-in-Ok-clause-places : goal.returns-in-Ok-clause-places
returns-in-Ok-clause-places g c = c.replace.ensures.places

pub returns-in-Ok-clause-cause : goal.returns-in-Ok-clause-cause
returns-in-Ok-clause-cause g c = record { later = c.replace.ensures.cause.later; failed = tt }

pub returns-in-Err-clause-failed : goal.returns-in-Err-clause-failed
returns-in-Err-clause-failed g c = c.in-Err.ensures.failed

pub returns-in-Err-clause-either : goal.returns-in-Err-clause-either
returns-in-Err-clause-either g c = c.replace.ensures.either

pub returns-in-Err-clause-any_moment : goal.returns-in-Err-clause-any_moment
returns-in-Err-clause-any_moment g c = c.replace.ensures.any_moment

pub returns-in-Err-clause-opens : goal.returns-in-Err-clause-opens
returns-in-Err-clause-opens g c = c.tells-in-Err.ensures.opens

pub returns-in-Err-clause-start : goal.returns-in-Err-clause-start
returns-in-Err-clause-start g c = c.replace.ensures.start

pub returns-in-Err-clause-places : goal.returns-in-Err-clause-places
returns-in-Err-clause-places g c = c.replace.ensures.places

pub returns-in-Err-clause-cause : goal.returns-in-Err-clause-cause
returns-in-Err-clause-cause g c = record { later = c.in-Err.ensures.cause.later; failed = c.in-Err.ensures.cause.failed }
