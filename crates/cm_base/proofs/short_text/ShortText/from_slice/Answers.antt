use Rattle.std.proofs.Common.{arith, ◌≡◌, ℕ, length, drop, replicate, ◌∙◌, length-append, length-take-le}
use Rattle.std.proofs.lemmas.List.{drop-replicate, length-replicate, length-drop}
use Rattle.std.proofs.lemmas.Slice.{drop-append-drop}
use Rattle.cm_base.proofs.short_text.ShortText.from_slice.Goals as goal

pub invariant_of-result : goal.invariant_of-result
invariant_of-result g c =
    let n = length c.args.bytes.now in
    let blank = replicate {A = ℕ} g.row.N 0 in
    let ys = c.copy_from_slice.new.self in
    let room = length-replicate {A = ℕ} g.row.N 0 in
    let len : length ys ≡ n = c.copy_from_slice.ensures.len ∙ length-take-le n blank (omega (arith, room, c.requires)) in (
      c.requires,
      length-append ys (drop n blank) ∙ omega (arith, len, c.requires, length-drop n blank, room),
      drop-append-drop n blank ys n (omega arith) len ∙ drop-replicate n g.row.N 0,
    )
