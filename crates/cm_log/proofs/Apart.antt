-- The three places of a shelf are three.
use Rattle.std.proofs.Common.{◌≡◌, List, ℕ, false, refl, sym, ◌∙◌}
use Rattle.std.specs.Prelude.{◌≢◌}
use Rattle.std.specs.Str.{bytes_eq}
use Rattle.std.proofs.lemmas.Bool.{false≢true}
use Rattle.std.proofs.lemmas.Slice.Eq.{bytes_eq-Decides}
use Rattle.cm_log.specs.declared.shelf.Shelf.{Shelf}
use Rattle.cm_log.specs.declared.shelf.Shelf.TheVariants.{PkgLib, Site}
use Rattle.cm_log.specs.declared.shelf.Side.{Side}
use Rattle.cm_log.specs.declared.shelf.Side.TheVariants.{First, Second}
use Rattle.cm_log.specs.Shelves.{ready_place, log_place}

apart : (a b : List ℕ) → bytes_eq a b ≡ false → a ≢ b
apart a b is same = false≢true (sym is ∙ (bytes_eq-Decides a b).1 same)

pub logs_apart : (shelf : Shelf) → log_place shelf First ≢ log_place shelf Second
logs_apart PkgLib = apart (log_place PkgLib First) (log_place PkgLib Second) refl
logs_apart Site = apart (log_place Site First) (log_place Site Second) refl

pub ready_apart : (shelf : Shelf) (side : Side) → ready_place shelf ≢ log_place shelf side
ready_apart PkgLib First = apart (ready_place PkgLib) (log_place PkgLib First) refl
ready_apart PkgLib Second = apart (ready_place PkgLib) (log_place PkgLib Second) refl
ready_apart Site First = apart (ready_place Site) (log_place Site First) refl
ready_apart Site Second = apart (ready_place Site) (log_place Site Second) refl
