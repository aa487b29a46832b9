use Rattle.std.proofs.Common.{◌≡◌, List, ℕ, sym, ◌∙◌, subst}
use Rattle.std.specs.Prelude.{◌≢◌, Some}
use Rattle.cm_disk.specs.Disk.{File, put, Only}
use Rattle.cm_disk.proofs.Puts.{put_here, put_there}
use Rattle.cm_log.specs.declared.shelf.Side.TheVariants.{First, Second}
use Rattle.cm_log.specs.Shelves.{IsNoLog}
use Rattle.cm_log.specs.Settled.{live_log, idle_log}
use Rattle.cm_log.proofs.Apart.{logs_apart}
use Rattle.cm_log.proofs.Frames.{alone_fewer, alone_then}
use Rattle.cm_log.proofs.Rest.{logs_at}
use Rattle.cm_log.proofs.Present.{gone_then}
use Rattle.cm_log.proofs.making.make_logs.Goals as goal

pub returns-in_err-live-clause-alone : goal.returns-in_err-live-clause-alone
returns-in_err-live-clause-alone g c = alone_fewer (IsNoLog c.args.shelf) (λ q other is. other First (is ∙ c.log_at-first.ensures)) c.write_file-live.ensures.alone

pub returns-in_err-write_file-clause-alone : goal.returns-in_err-write_file-clause-alone
returns-in_err-write_file-clause-alone g c =
    alone_then
    (alone_fewer (IsNoLog c.args.shelf) (λ q other is. other First (is ∙ c.log_at-first.ensures)) c.write_file-live.ensures.alone)
    (alone_fewer (IsNoLog c.args.shelf) (λ q other is. other Second (is ∙ c.log_at-second.ensures)) c.write_file.ensures.alone)

pub returns-clause-alone : goal.returns-clause-alone
returns-clause-alone g c =
    alone_then
    (alone_fewer (IsNoLog c.args.shelf) (λ q other is. other First (is ∙ c.log_at-first.ensures)) c.write_file-live.ensures.alone)
    (alone_fewer (IsNoLog c.args.shelf) (λ q other is. other Second (is ∙ c.log_at-second.ensures)) c.write_file.ensures.alone)

pub returns-clause-made : goal.returns-clause-made
returns-clause-made g c x told =
    let new = g.D.Disk.may_leave c.write_file.new.disk in
    let first = c.log_at-first.result in
    let second = c.log_at-second.result in
    let one = put x first (Some live_log) in
    let two = put one second (Some idle_log) in
    let told_one = c.in_ok-live.ensures.made x told in
    let apart : first ≢ second = λ e. logs_apart c.args.shelf (sym c.log_at-first.ensures ∙ e ∙ c.log_at-second.ensures) in
    let is_first : two first ≡ Some live_log = put_there one second (Some idle_log) first apart ∙ put_here x first (Some live_log) in
    let is_second : two second ≡ Some idle_log = put_here one second (Some idle_log) in (
      two,
      c.in_ok-write_file.ensures.made one told_one,
      record {
        first = subst (λ (q : List ℕ). two q ≡ Some live_log) c.log_at-first.ensures is_first;
        second = subst (λ (q : List ℕ). two q ≡ Some idle_log) c.log_at-second.ensures is_second;
        durable = logs_at c.args.shelf two new first second c.log_at-first.ensures c.log_at-second.ensures
            (subst (λ (f : File). Only f (new first)) (sym is_first) (λ left l. c.in_ok-live.ensures.durable x told left (c.write_file.ensures.alone.others first left apart l)))
            (subst (λ (f : File). Only f (new second)) (sym is_second) (c.in_ok-write_file.ensures.durable one told_one));
        others = λ q other. put_there one second (Some idle_log) q (λ is. other Second (is ∙ c.log_at-second.ensures)) ∙ put_there x first (Some live_log) q (λ is. other First (is ∙ c.log_at-first.ensures));
      },
    )

pub returns-in_err-write_file-clause-none_gone : goal.returns-in_err-write_file-clause-none_gone
returns-in_err-write_file-clause-none_gone g c =
    let d = g.D.Disk in
    gone_then (d.reads c.args.disk.now) (d.reads c.write_file-live.new.disk) (d.reads c.write_file.new.disk) c.write_file-live.ensures.none_gone c.write_file.ensures.none_gone

pub returns-clause-none_gone : goal.returns-clause-none_gone
returns-clause-none_gone g c =
    let d = g.D.Disk in
    gone_then (d.reads c.args.disk.now) (d.reads c.write_file-live.new.disk) (d.reads c.write_file.new.disk) c.write_file-live.ensures.none_gone c.write_file.ensures.none_gone
