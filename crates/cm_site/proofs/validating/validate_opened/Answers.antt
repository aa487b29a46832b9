use Rattle.std.proofs.Common.{◌≡◌, ℕ, List, Err, sym, ◌∙◌, ap, subst}
use Rattle.std.specs.Prelude.{length, Option}
use Rattle.cm_check.specs.declared.fault.CheckFault.{CheckFault}
use Rattle.cm_check.specs.declared.finding.Finding.{Finding}
use Rattle.cm_state.specs.State.{Held}
use Rattle.cm_site.specs.OneEnds.{OneEndsOn}
use Rattle.cm_site.specs.OneLibrary.{validated, validate}
use Rattle.cm_site.specs.declared.reply.Reply.TheVariants.{Findings, Refused}
use Rattle.cm_site.specs.declared.reply.Refusal.TheVariants.{NoVersion}
use Rattle.cm_site.proofs.CheckEnds.{moments_read, ends_findings, validate_memory, validate_unread, its_version, no_version}
use Rattle.cm_site.proofs.OpenedEnds.{ends_stay}
use Rattle.cm_site.proofs.validating.validate_opened.Goals as goal

pub returns-in-None : goal.returns-in-None
returns-in-None g c = λ from to.
    let d = g.D.Disk in
    let library = c.args.library.now in
    let told_now = c.tells.ensures in
    let none = no_version c.args.«package» c.args.version library.state (sym c.files_of.ensures ∙ c.in-None.is) in
    ends_stay d.reads d.may_leave d.moment d.left_since d.faults c.args.bay library c.requires.opened (record { files = told_now.files; stands = told_now.stands; opens = told_now.opens }) (λ files left. g.met.D.Disk.only_now library.disk files left) from to
    (validate c.args.«package» c.args.version) (Refused NoVersion) (λ given. ap (λ (o : Option Held). validated given o) none) tt

pub returns-in-Ok : goal.returns-in-Ok
returns-in-Ok g c = λ from to.
    let d = g.D.Disk in
    let library = c.args.library.now in
    let now = c.validate-found.new.library in
    let done = c.validate-found.ensures in
    let first = c.tells.ensures in
    let later = c.tells-2.ensures in
    let moments = moments_read d.reads d.may_leave d.moment d.left_since d.faults library now c.requires.opened (record { files = first.files; stands = first.stands; opens = first.opens }) done.moments in
    let held = its_version c.args.«package» c.args.version library.state c.in-Some.files (sym c.files_of.ensures ∙ c.in-Some.is) in
    let whole = ends_findings d.reads d.may_leave d.moment d.left_since d.faults library now c.requires.opened done.same moments (record { files = later.files; stands = later.stands; opens = later.opens }) c.args.bay from to c.args.«package» c.args.version held.0 held.1 c.in-Ok.list.items c.in-Ok.ensures.found in
    let of_list = subst (λ (l : List Finding). OneEndsOn d.reads d.may_leave d.moment d.left_since d.faults c.args.bay library.state library.end (validate c.args.«package» c.args.version) from to (Findings (length held.0.manifest) l) library.start now.disk) (sym c.of.ensures) whole in
    subst (λ (n : ℕ). OneEndsOn d.reads d.may_leave d.moment d.left_since d.faults c.args.bay library.state library.end (validate c.args.«package» c.args.version) from to (Findings n c.of.result) library.start now.disk) held.2 of_list

pub returns-in-Disk : goal.returns-in-Disk
returns-in-Disk g c = λ from to.
    let d = g.D.Disk in
    let library = c.args.library.now in
    let now = c.validate-found.new.library in
    let done = c.validate-found.ensures in
    let first = c.tells.ensures in
    let later = c.tells-2.ensures in
    let moments = moments_read d.reads d.may_leave d.moment d.left_since d.faults library now c.requires.opened (record { files = first.files; stands = first.stands; opens = first.opens }) done.moments in
    let held = its_version c.args.«package» c.args.version library.state c.in-Some.files (sym c.files_of.ensures ∙ c.in-Some.is) in
    let failed = subst (λ (f : CheckFault). c.validate-found.result ≡ Err f) c.in-Disk.is c.in-Err.is in
    validate_unread d.reads d.may_leave d.moment d.left_since d.faults library now c.requires.opened done.same moments (record { files = later.files; stands = later.stands; opens = later.opens }) c.args.bay from to c.args.«package» c.args.version held.0 held.1 (λ files is. g.met.D.Disk.as_it_reads now.disk files is) (done.cause failed)

pub returns-in-Memory : goal.returns-in-Memory
returns-in-Memory g c = λ from to.
    let d = g.D.Disk in
    let library = c.args.library.now in
    let now = c.validate-found.new.library in
    let done = c.validate-found.ensures in
    let first = c.tells.ensures in
    let later = c.tells-2.ensures in
    let moments = moments_read d.reads d.may_leave d.moment d.left_since d.faults library now c.requires.opened (record { files = first.files; stands = first.stands; opens = first.opens }) done.moments in
    let held = its_version c.args.«package» c.args.version library.state c.in-Some.files (sym c.files_of.ensures ∙ c.in-Some.is) in
    validate_memory d.reads d.may_leave d.moment d.left_since d.faults library now c.requires.opened done.same moments (record { files = later.files; stands = later.stands; opens = later.opens }) c.args.bay from to c.args.«package» c.args.version held.0 held.1
