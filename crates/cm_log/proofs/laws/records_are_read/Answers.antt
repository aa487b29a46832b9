use Rattle.std.proofs.Common.{◌≡◌, ℕ, ◌+◌, List, [], ◌∷◌, length, refl, sym, ◌∙◌, ap}
use Rattle.cm_disk.specs.Disk.{File}
use Rattle.cm_log.specs.Logs.{Reading, bodies_of}
use Rattle.cm_log.specs.Records.{HasRecords, entries_from}
use Rattle.cm_log.proofs.Spelling.{records_read}
use Rattle.cm_log.proofs.Spelled.{read_records}
use Rattle.cm_log.proofs.laws.records_are_read.Goals as goal

bodies_back : (at : ℕ) (bodies : List (List ℕ)) → bodies_of (entries_from at bodies) ≡ bodies
bodies_back at [] = refl
bodies_back at (body ∷ bodies) = ap (λ (l : List (List ℕ)). body ∷ l) (bodies_back (at + 5 + length body) bodies)

same_list : (file : File) (a b : List (List ℕ)) → HasRecords file a → HasRecords file b → a ≡ b
same_list file a b ha hb = sym (bodies_back 10 a) ∙ ap (λ (r : Reading). bodies_of r.entries) (sym (records_read ha) ∙ records_read hb) ∙ bodies_back 10 b

pub returns : goal.returns
returns c = record {
  read = λ file bodies h. records_read h;
  spells = λ bytes generation entries end all head long is. read_records bytes generation entries end all head long is;
  one_list = same_list;
}
