use Rattle.std.proofs.Common.{◌≤◌, take}
use Rattle.cm_net.proofs.SiteTexts.{AreNameBytes}
use Rattle.cm_net.proofs.site_text.end_of_name.Given as goal

abbrev pub invariant-loop-at : goal.invariant-loop-at
invariant-loop-at l = record { few : l.at ≤ 63; all : AreNameBytes (take l.at l.text) }
