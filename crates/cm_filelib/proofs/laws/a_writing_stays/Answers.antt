use Rattle.std.proofs.Common.{sym, ◌∙◌}
use Rattle.cm_disk.proofs.Puts.{put_there}
use Rattle.cm_filelib.specs.Writings.{place_of}
use Rattle.cm_filelib.proofs.laws.a_writing_stays.Goals as goal

pub returns-clause-same : goal.returns-clause-same
returns-clause-same c = λ writing before after same was. record { bytes = was.bytes; put = was.put; reads = same ∙ was.reads }

pub returns-clause-elsewhere : goal.returns-clause-elsewhere
returns-clause-elsewhere c = λ writing files place file other was. record {
  bytes = was.bytes;
  put = was.put;
  reads = put_there files place file (place_of writing) (λ same. other (sym same)) ∙ was.reads;
}
