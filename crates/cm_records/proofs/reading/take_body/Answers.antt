use Rattle.std.proofs.Common.{◌≡◌, ℕ, List, Option, None, Some, Result, Err, sym, ◌∙◌, ap}
use Rattle.std.specs.Prelude.{option_map}
use Rattle.std.specs.Option.{ok_or}
use Rattle.cm_base.specs.declared.hash.Hash.{Hash}
use Rattle.cm_disk.specs.Disk.{Files}
use Rattle.cm_notes.specs.declared.note.Note.{Note}
use Rattle.cm_notes.specs.declared.note.Note.TheVariants as note
use Rattle.cm_notes.specs.Reading.{read_note}
use Rattle.cm_register.specs.AfterNote.{after_note}
use Rattle.cm_register.specs.Look.{Where, after_read, after_record, topology_named}
use Rattle.cm_register.specs.Records.{Records}
use Rattle.cm_state.specs.declared.fault.OpenFault.{OpenFault}
use Rattle.cm_state.specs.declared.fault.OpenFault.TheVariants.{Unreadable as OpenUnreadable}
use Rattle.cm_textlib.specs.Places.{topology_place}
use Rattle.cm_topo.specs.declared.topology.Topology.{Topology}
use Rattle.cm_records.proofs.Naming.{err_is}
use Rattle.cm_records.proofs.Steps.{texts_of}
use Rattle.cm_records.proofs.reading.take_body.Goals as goal

-- a topology whose text says none is unreadable there
unnamed : (files : Files) (gate : Where) (number size : ℕ) (hash : Hash) (minute : ℕ) (records : Records) (q : List ℕ) (n : ℕ) → q ≡ topology_place number → n ≡ 0 → topology_named size hash (files (topology_place number)) ≡ None
    → after_record files gate (note.Topology number size hash minute) records ≡ Err (q, n)
unnamed files gate number size hash minute records q n place start none =
    ap (λ (o : Option Topology). ok_or (option_map (λ (topology : Topology). after_note (note.Topology number size hash minute) (Some topology) records) o) (topology_place number, 0)) none
    ∙ (ap (λ (p : List ℕ). let r : Result Records Where = Err (p, 0) in r) (sym place) ∙ ap (λ (m : ℕ). let r : Result Records Where = Err (q, m) in r) (sym start))

pub returns-in-Err-clause-unreadable : goal.returns-in-Err-clause-unreadable
returns-in-Err-clause-unreadable g c q n is x told =
    let a = c.in-Some-Topology in
    let exact = rw c.in-Some-Topology.field-0-is at c.in-Some-Topology.ensures.exact in
    let fault = err_is {T = Unit {0}} c.in-Err.fault (OpenUnreadable q n) is in
    let why = c.in-Err.ensures.unreadable q n (ap (λ (f : OpenFault). let r : Result Topology OpenFault = Err f in r) fault) x told in
    ap (λ (o : Option Note). after_read x (c.args.place, c.args.at) o c.args.kept.now) (sym exact)
    ∙ unnamed x (c.args.place, c.args.at) a.number a.size a.hash a.field-0-3 c.args.kept.now q n why.0 why.1 why.2

pub returns-in-Ok-clause-texts : goal.returns-in-Ok-clause-texts
returns-in-Ok-clause-texts g c x told =
    let a = c.in-Some-Topology in
    let exact = rw c.in-Some-Topology.field-0-is at c.in-Some-Topology.ensures.exact in
    texts_of x (g.D.Disk.may_leave c.load_topology.new.disk) (read_note c.args.body.now) a.number a.size a.hash _ (sym exact) (c.in-Ok.ensures.durable x told)
