use Rattle.std.proofs.Common.{ap, ℕ, List, ◌∷◌, ◌++◌, length, arith, length-append}
use Rattle.std.specs.Int.{w32, to_le_bytes}
use Rattle.cm_tree.proofs.manifest.entry_len.Goals as goal

pub returns-clause-exact : goal.returns-clause-exact
returns-clause-exact c =
    let e = c.args.entry.now in
    omega (
      arith,
      c.requires.hash,
      ap (λ (xs : List ℕ). length xs) c.as_bytes.ensures.value,
      length-append ((length e.path ∷ e.path) ++ to_le_bytes w32 e.size) e.hash.0,
      length-append (length e.path ∷ e.path) (to_le_bytes w32 e.size),
    )
