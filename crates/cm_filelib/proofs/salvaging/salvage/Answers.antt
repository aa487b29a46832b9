use Rattle.std.proofs.Common.{◌≡◌, List, ℕ, sym, ◌∙◌, subst}
use Rattle.cm_filelib.specs.Stored.{is_file_of}
use Rattle.cm_filelib.proofs.Adding.{kept_true}
use Rattle.cm_filelib.proofs.Wholes.{is_sure}
use Rattle.cm_filelib.proofs.salvaging.salvage.Goals as goal

pub returns-clause-value : goal.returns-clause-value
returns-clause-value g c x told =
    subst (λ (place : List ℕ). c.is_that.result ≡ is_file_of c.args.hash.0 c.args.size (x place)) c.file_at-place.ensures
    (c.is_that.ensures (x c.file_at-place.result) (c.in_ok-found.ensures.exact x (c.sync.ensures.same ∙ told)))

pub returns-clause-kept : goal.returns-clause-kept
returns-clause-kept g c good x told =
    let place = c.file_at-place.result in
    let synced = sym c.hash_file.ensures.same ∙ told in
    kept_true x (g.D.Disk.may_leave c.hash_file.new.disk) place c.args.hash.0 c.args.size c.file_at-place.ensures
    (sym (c.is_that.ensures (x place) (c.in_ok-found.ensures.exact x synced)) ∙ good)
    (λ left may. c.in_ok-sync.ensures.durable x (sym c.sync.ensures.same ∙ synced) left (c.hash_file.ensures.stop place left may))

pub returns-clause-sure : goal.returns-clause-sure
returns-clause-sure g c good x told = is_sure x (g.D.Disk.may_leave c.hash_file.new.disk) c.args.hash.0 c.args.size (returns-clause-kept g c good x told)
