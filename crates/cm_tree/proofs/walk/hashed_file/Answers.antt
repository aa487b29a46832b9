use Rattle.std.proofs.Common.{◌≡◌, ◌<◌, length, length-take-le, refl, arith, subst}
use Rattle.std.specs.Option.{ForSome}
use Rattle.cm_tree.specs.Folders.{GivesPart}
use Rattle.cm_tree.proofs.Parts.{fed_more, fed_all, fed_long}
use Rattle.cm_tree.proofs.Shows.{some_stays, stays_then}
use Rattle.cm_tree.proofs.walk.hashed_file.Goals as goal

pub returns-in-Ok-eq0-clause-hash : goal.returns-in-Ok-eq0-clause-hash
returns-in-Ok-eq0-clause-hash g c =
    let none : c.in-Ok-eq0.field-0 ≡ 0 = omega (arith, c.in-Ok-eq0.field-0-test) in
    let gives = subst (λ k. ForSome ((g.F.Folder.shows c.pieces.folder).now c.args.n) (λ bytes. GivesPart bytes c.pieces.at c.read_at.new.buf k)) none c.in-Ok-eq0.ensures.bytes in
    fed_all ((g.F.Folder.shows c.args.folder.now).now c.args.n) ((g.F.Folder.shows c.pieces.folder).now c.args.n) c.pieces.hasher c.pieces.at c.args.most_bytes c.read_at.new.buf c.done-done.result.1.0
    c.pieces.invariant.fed (c.pieces.invariant.stays.now c.args.n) c.pieces.invariant.few gives (omega (arith, c.requires.room))
    (λ fed was. (c.done-done.ensures.hash fed was).1)

pub returns-then-at-most_bytes-clause-fault : goal.returns-then-at-most_bytes-clause-fault
returns-then-at-most_bytes-clause-fault g c =
    let some : 0 < c.in-Ok.count = omega (arith, c.in-Ok.count-test.1) in
    let fed = fed_more ((g.F.Folder.shows c.args.folder.now).now c.args.n) ((g.F.Folder.shows c.pieces.folder).now c.args.n) c.pieces.hasher c.feed.new.self c.pieces.at c.read_at.new.buf c.in-Ok.count
    c.pieces.invariant.fed (c.pieces.invariant.stays.now c.args.n) c.in-Ok.ensures.bytes some c.in-Ok.ensures.fits c.feed.ensures.fed in
    let long = fed_long ((g.F.Folder.shows c.args.folder.now).now c.args.n) c.feed.new.self _ c.args.most_bytes fed c.if-at-most_bytes.true in
    (refl, long.0, long.1, long.2)

pub pieces-preserved : goal.pieces-preserved
pieces-preserved g c =
    let some : 0 < c.in-Ok.count = omega (arith, c.in-Ok.count-test.1) in
    record {
      stays = stays_then (g.F.Folder.shows c.args.folder.now) (g.F.Folder.shows c.pieces.folder) (g.F.Folder.shows c.read_at.new.self) c.pieces.invariant.stays
          (some_stays c.args.n c.in-Ok.count (length c.read_at.new.buf) (g.F.Folder.shows c.pieces.folder) (g.F.Folder.shows c.read_at.new.self) some c.in-Ok.ensures.after);
      fed = fed_more ((g.F.Folder.shows c.args.folder.now).now c.args.n) ((g.F.Folder.shows c.pieces.folder).now c.args.n) c.pieces.hasher c.feed.new.self c.pieces.at c.read_at.new.buf c.in-Ok.count
          c.pieces.invariant.fed (c.pieces.invariant.stays.now c.args.n) c.in-Ok.ensures.bytes some c.in-Ok.ensures.fits c.feed.ensures.fed;
      count = omega (arith, c.feed.ensures.count, c.pieces.invariant.count, length-take-le c.in-Ok.count c.read_at.new.buf c.in-Ok.ensures.fits);
      few = omega (arith, c.if-at-most_bytes.false);
      later = omega (arith, c.pieces.invariant.later, c.in-Ok.ensures.cause.later);
    }
