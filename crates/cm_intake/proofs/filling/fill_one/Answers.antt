use Rattle.std.proofs.Common.{ℕ, List, sym, ◌∙◌, ap, subst, arith}
use Rattle.std.specs.Prelude.{Option}
use Rattle.cm_base.specs.declared.hash.Hash.{Hash}
use Rattle.cm_pkglib.specs.Counts.{seal_at}
use Rattle.cm_tree.specs.declared.entry.Entry.{Entry}
use Rattle.cm_contents.specs.Wants.{size_in}
use Rattle.cm_intake.specs.Filling.{ReadsAgain}
use Rattle.cm_intake.proofs.Filled.{first_number, first_entry, indexed_first, reads_first, reads_changed}
use Rattle.cm_intake.proofs.FirstChange.{first_with_size, first_in_range}
use Rattle.cm_intake.proofs.filling.fill_one.Goals as goal

pub unreachable-requires : goal.unreachable-requires
unreachable-requires g c = first_number c.args.firsts.now c.args.entries.now c.args.hash c.requires.firsts c.requires.wanted (sym c.number.ensures ∙ c.in-None.is)

pub bounds-entries-n : goal.bounds-entries-n
bounds-entries-n g c =
    let first = first_entry c.args.firsts.now c.args.entries.now c.args.hash c.in-Some.n c.requires.firsts (sym c.number.ensures ∙ c.in-Some.is) in
    let within = (first_in_range c.args.hash 0 c.args.entries.now (c.in-Some.n, first.0) first.1).1 in
    omega (arith, within)

pub store_again-requires-clause-wanted : goal.store_again-requires-clause-wanted
store_again-requires-clause-wanted g c =
    let entries = c.args.entries.now in
    let hash = c.args.hash in
    let n = c.in-Some.n in
    let entry = c.index-entries-n.result in
    let first = first_entry c.args.firsts.now entries hash n c.requires.firsts (sym c.number.ensures ∙ c.in-Some.is) in
    ap (λ (es : List Entry). size_in hash es) c.requires.manifest ∙ first_with_size hash 0 entries (n, entry) (indexed_first entries hash n first.0 entry first.1 c.index-entries-n.is)

pub store_again-requires-clause-read : goal.store_again-requires-clause-read
store_again-requires-clause-read g c =
    let first = first_entry c.args.firsts.now c.args.entries.now c.args.hash c.in-Some.n c.requires.firsts (sym c.number.ensures ∙ c.in-Some.is) in
    let within = (first_in_range c.args.hash 0 c.args.entries.now (c.in-Some.n, first.0) first.1).1 in
    c.requires.read c.in-Some.n (omega (arith, within))

pub returns-in-Ok-None-clause-first : goal.returns-in-Ok-None-clause-first
returns-in-Ok-None-clause-first g c =
    let entries = c.args.entries.now in
    let hash = c.args.hash in
    let n = c.in-Some.n in
    let entry = c.index-entries-n.result in
    let old = seal_at c.args.library.now.seals in
    let new = seal_at c.store_again.new.library.seals in
    let shown = g.F.Folder.shows c.args.folder.now in
    let first = first_entry c.args.firsts.now entries hash n c.requires.firsts (sym c.number.ensures ∙ c.in-Some.is) in
    reads_first shown entries hash n entry old new (indexed_first entries hash n first.0 entry first.1 c.index-entries-n.is)
    (subst (λ (o : Option (Hash × ℕ)). ReadsAgain (shown.later n) hash entry.size old new o) c.in-Ok-None.field-0-is c.in-Ok-None.ensures.again)

pub returns-in-Ok-Some-clause-first : goal.returns-in-Ok-Some-clause-first
returns-in-Ok-Some-clause-first g c =
    let entries = c.args.entries.now in
    let hash = c.args.hash in
    let n = c.in-Some.n in
    let entry = c.index-entries-n.result in
    let old = seal_at c.args.library.now.seals in
    let new = seal_at c.store_again.new.library.seals in
    let shown = g.F.Folder.shows c.args.folder.now in
    let first = first_entry c.args.firsts.now entries hash n c.requires.firsts (sym c.number.ensures ∙ c.in-Some.is) in
    reads_changed shown entries hash n entry old new c.in-Ok-Some.second c.in-Ok-Some.second_size (indexed_first entries hash n first.0 entry first.1 c.index-entries-n.is)
    (subst (λ (o : Option (Hash × ℕ)). ReadsAgain (shown.later n) hash entry.size old new o) c.in-Ok-Some.field-0-is c.in-Ok-Some.ensures.again)
