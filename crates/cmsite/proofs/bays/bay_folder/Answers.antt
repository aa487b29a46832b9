use Rattle.std.proofs.Common.{sym, subst}
use Rattle.std.specs.Str.{IsUtf8}
use Rattle.std.proofs.lemmas.Str.{IsUtf8-from_ascii}
use Rattle.cmsite.proofs.AsciiNames.{ascii_name}
use Rattle.cmsite.proofs.bays.bay_folder.Goals as goal

pub unreachable-requires : goal.unreachable-requires
unreachable-requires c =
    c.in_default.ensures.cases.0 (subst IsUtf8 (sym c.as_bytes.ensures) (IsUtf8-from_ascii c.args.name.now (ascii_name c.args.name.now c.show_form.ensures)))
