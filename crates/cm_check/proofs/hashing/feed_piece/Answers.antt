use Rattle.std.proofs.Common.{sym, ◌∙◌, ap, length}
use Rattle.std.specs.Prelude.{is_some}
use Rattle.cm_filelib.specs.Places.{file_place}
use Rattle.cm_check.proofs.Pieces.{number_none}
use Rattle.cm_check.proofs.hashing.feed_piece.Goals as goal

pub returns-in-Ok-None-clause-number : goal.returns-in-Ok-None-clause-number
returns-in-Ok-None-clause-number g c e at files told =
    number_none (files (file_place e.hash.0)) c.args.offset (length c.args.piece.now) (ap is_some (sym c.in-Ok-None.field-0-is) ∙ c.in-Ok-None.ensures.present e at files told)
