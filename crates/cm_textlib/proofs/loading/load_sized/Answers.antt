use Rattle.std.proofs.Common.{◌≡◌, List, ℕ, take, length, sym, ◌∙◌, ap, arith}
use Rattle.cm_disk.specs.Disk.{File}
use Rattle.cm_textlib.specs.Places.{if_named, text_in}
use Rattle.cm_textlib.proofs.Loaded.{whole_read, written_back}
use Rattle.cm_textlib.proofs.loading.load_sized.Goals as goal

pub returns-clause-answer : goal.returns-clause-answer
returns-clause-answer g c x told long =
    let bytes = c.in_ok-bytes.bytes in
    let buffer = c.read_at.new.buf in
    let count = c.in_ok-count.count in
    let size : length buffer ≡ c.args.size = omega (arith, c.in_ok-bytes.ensures.len) in
    let file = whole_read (x c.args.place.now) buffer c.args.size count long size (c.in_ok-count.ensures.bytes x told) in
    let items : c.truncate.new.self.items ≡ take count buffer = c.truncate.ensures.items ∙ ap (take count) (written_back bytes.len buffer bytes.items (omega arith) (omega (arith, bytes.ok.0))) in
    c.named_text.ensures ∙ ap (λ (l : List ℕ). if_named c.args.size c.args.hash l) items ∙ sym (ap (λ (f : File). text_in c.args.size c.args.hash f) file)
