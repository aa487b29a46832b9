use Rattle.std.proofs.Common.{◌≡◌, ℕ, length, take, arith}
use Rattle.std.specs.Prelude.{Some, option_map}
use Rattle.std.specs.Option.{ForSome}
use Rattle.std.proofs.lemmas.Result.{IfOk-weaker}
use Rattle.cm_disk.specs.Disk.{Files, Reads}
use Rattle.cm_datalib.proofs.Loaded.{whole_read}
use Rattle.cm_datalib.proofs.loading.read_front.Goals as goal

pub returns-clause-whole : goal.returns-clause-whole
returns-clause-whole g c =
    let d = g.D.Disk in
    let place = c.args.place.now in
    let same : length c.read_at.new.buf ≡ length c.args.buf.now = omega arith in
    IfOk-weaker c.read_at.result
    (λ (count : ℕ). ForSome (d.reads c.args.disk.now) (λ (files : Files). Reads (files place) 0 c.read_at.new.buf count))
    (λ (count : ℕ). ForSome (d.reads c.args.disk.now) (λ (files : Files). option_map length (files place) ≡ Some (length c.args.buf.now) → files place ≡ Some (take count c.read_at.new.buf)))
    (λ count reads x told long. whole_read (x place) c.read_at.new.buf (length c.args.buf.now) count long same (reads x told))
    c.read_at.ensures.bytes
