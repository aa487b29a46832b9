use Rattle.std.proofs.Common.{◌≡◌, inl, ◌+◌, ◌≤◌, [], ◌∷◌, ◌++◌, length, take, refl, sym, ◌∙◌, ap, subst, arith, rules, length-append}
use Rattle.std.specs.Prelude.{◌≢◌}
use Rattle.std.proofs.lemmas.Option.{same_Some}
use Rattle.cm_disk.specs.Disk.{Files, bytes_of}
use Rattle.cm_disk.proofs.Moments.{started, weaker}
use Rattle.cm_disk.proofs.Puts.{told_before}
use Rattle.cm_log.specs.Logs.{shelved, added}
use Rattle.cm_log.specs.Records.{HasRecords}
use Rattle.cm_log.specs.Settled.{place_of}
use Rattle.cm_log.proofs.Frames.{only_start, alone_only}
use Rattle.cm_log.proofs.Shelveds.{lives, ended_by}
use Rattle.cm_log.proofs.Adding.{place_rests, all_rest, ready_kept, logs_kept, either_shelved, more_shelved, at_first, before_or_after, beside_now, stands_at, after_ok_at}
use Rattle.cm_log.proofs.Spelling.{spelled_front, front_shut, front_long, records_more, same_end}
use Rattle.cm_log.proofs.state.Log.append.Goals as goal

pub returns-then-body-gt-MOST_BODY-clause-any_moment : goal.returns-then-body-gt-MOST_BODY-clause-any_moment
returns-then-body-gt-MOST_BODY-clause-any_moment g c x told =
    let d = g.D.Disk in
    let s = c.requires.settled x told in
    started d.moment d.left_since c.args.disk.now _ (λ left since. at_first c.args.self.now.shelf x (d.may_leave c.args.disk.now) c.args.self.now.place s.ends.entries c.args.self.now.end c.args.body.now s.ends.live s.rests left (g.met.D.Disk.only_now c.args.disk.now left since))

pub returns-then-self-body-gt-MOST-clause-any_moment : goal.returns-then-self-body-gt-MOST-clause-any_moment
returns-then-self-body-gt-MOST-clause-any_moment g c x told =
    let d = g.D.Disk in
    let s = c.requires.settled x told in
    started d.moment d.left_since c.args.disk.now _ (λ left since. at_first c.args.self.now.shelf x (d.may_leave c.args.disk.now) c.args.self.now.place s.ends.entries c.args.self.now.end c.args.body.now s.ends.live s.rests left (g.met.D.Disk.only_now c.args.disk.now left since))

pub commit-requires-clause-shut : goal.commit-requires-clause-shut
commit-requires-clause-shut g c x told =
    let d = g.D.Disk in
    let s = c.requires.settled x told in
    let e = ended_by c.args.self.now.shelf x c.args.self.now.place s.ends.entries c.args.self.now.end s.ends.live in
    let front = take c.args.self.now.end (bytes_of (x c.args.self.now.place)) in
    (front, e.long, e.shut, place_rests c.args.self.now.shelf x (d.may_leave c.args.disk.now) c.args.self.now.place _ s.ends.live s.rests)

pub returns-in_err-commit-clause-any_moment : goal.returns-in_err-commit-clause-any_moment
returns-in_err-commit-clause-any_moment g c x told =
    let d = g.D.Disk in
    let s = c.requires.settled x told in
    let e = ended_by c.args.self.now.shelf x c.args.self.now.place s.ends.entries c.args.self.now.end s.ends.live in
    let front = take c.args.self.now.end (bytes_of (x c.args.self.now.place)) in
    let short : length c.args.body.now ≤ 65536 = omega arith in
    weaker d.moment d.left_since c.args.disk.now c.commit.new.disk _ _ (c.commit.ensures.any_moment x told front e.long e.shut)
    (before_or_after c.args.self.now.shelf x (d.may_leave c.args.disk.now) c.args.self.now.place s.ends.entries c.args.self.now.end c.args.body.now s.ends.live s.rests short)

pub returns-clause-any_moment : goal.returns-clause-any_moment
returns-clause-any_moment g c x told =
    let d = g.D.Disk in
    let s = c.requires.settled x told in
    let e = ended_by c.args.self.now.shelf x c.args.self.now.place s.ends.entries c.args.self.now.end s.ends.live in
    let front = take c.args.self.now.end (bytes_of (x c.args.self.now.place)) in
    let short : length c.args.body.now ≤ 65536 = omega arith in
    weaker d.moment d.left_since c.args.disk.now c.commit.new.disk _ _ (c.commit.ensures.any_moment x told front e.long e.shut)
    (before_or_after c.args.self.now.shelf x (d.may_leave c.args.disk.now) c.args.self.now.place s.ends.entries c.args.self.now.end c.args.body.now s.ends.live s.rests short)

pub returns-in_err-commit-clause-unsettled : goal.returns-in_err-commit-clause-unsettled
returns-in_err-commit-clause-unsettled g c is x told =
    let d = g.D.Disk in
    let s = c.requires.settled x told in
    let e = ended_by c.args.self.now.shelf x c.args.self.now.place s.ends.entries c.args.self.now.end s.ends.live in
    let front = take c.args.self.now.end (bytes_of (x c.args.self.now.place)) in
    let short : length c.args.body.now ≤ 65536 = omega arith in
    let w = c.commit.ensures.works x told front e.long e.shut in
    let run = c.commit.ensures.any_moment x told front e.long e.shut in (
      w.0,
      w.1,
      record {
        entries = s.ends.entries;
        live = s.ends.live;
        number = s.ends.number;
        end_with = refl;
        reads = either_shelved c.args.self.now.shelf x c.args.self.now.place s.ends.entries c.args.self.now.end front c.args.body.now s.ends.live e short w.0 (beside_now c.args.self.now.shelf x c.args.self.now.place s.ends.entries c.args.self.now.end s.ends.live w.0 w.2.others) w.2.either;
        leaves = λ left image. (before_or_after c.args.self.now.shelf x (d.may_leave c.args.disk.now) c.args.self.now.place s.ends.entries c.args.self.now.end c.args.body.now s.ends.live s.rests short left (run.each left (g.met.D.Disk.counts_now c.commit.new.disk (d.moment c.args.disk.now) left run.later image))).log;
        ready = ready_kept c.args.self.now.shelf x (d.may_leave c.args.disk.now) c.args.self.now.place s.ends.entries c.args.self.now.end s.ends.live s.rests w.0 (d.may_leave c.commit.new.disk) w.2.others c.commit.ensures.alone.others;
        other = logs_kept c.args.self.now.shelf x (d.may_leave c.args.disk.now) c.args.self.now.place s.ends.entries c.args.self.now.end s.ends.live s.rests w.0 (d.may_leave c.commit.new.disk) w.2.others c.commit.ensures.alone.others;
      },
    )

pub returns-in_err-commit-clause-stands : goal.returns-in_err-commit-clause-stands
returns-in_err-commit-clause-stands g c x told =
    let before = told_before (g.D.Disk.reads c.args.disk.now) (g.D.Disk.reads c.commit.new.disk) c.commit.ensures.alone.silent x told in
    let d = g.D.Disk in
    let s = c.requires.settled before.0 before.1 in
    let e = ended_by c.args.self.now.shelf before.0 c.args.self.now.place s.ends.entries c.args.self.now.end s.ends.live in
    let front = take c.args.self.now.end (bytes_of (before.0 c.args.self.now.place)) in
    let short : length c.args.body.now ≤ 65536 = omega arith in
    let w = c.commit.ensures.works before.0 before.1 front e.long e.shut in
    let run = c.commit.ensures.any_moment before.0 before.1 front e.long e.shut in
    let same : w.0 ≡ x = same_Some w.0 x (sym w.1 ∙ told) in
    record {
      settled = search rules;
      stands = stands_at w.0 x (d.may_leave c.commit.new.disk) _ (shelved c.args.self.now.shelf before.0) c.args.body.now same (record {
        entries = s.ends.entries;
        live = s.ends.live;
        number = s.ends.number;
        end_with = refl;
        reads = either_shelved c.args.self.now.shelf before.0 c.args.self.now.place s.ends.entries c.args.self.now.end front c.args.body.now s.ends.live e short w.0 (beside_now c.args.self.now.shelf before.0 c.args.self.now.place s.ends.entries c.args.self.now.end s.ends.live w.0 w.2.others) w.2.either;
        leaves = λ left image. (before_or_after c.args.self.now.shelf before.0 (d.may_leave c.args.disk.now) c.args.self.now.place s.ends.entries c.args.self.now.end c.args.body.now s.ends.live s.rests short left (run.each left (g.met.D.Disk.counts_now c.commit.new.disk (d.moment c.args.disk.now) left run.later image))).log;
        ready = ready_kept c.args.self.now.shelf before.0 (d.may_leave c.args.disk.now) c.args.self.now.place s.ends.entries c.args.self.now.end s.ends.live s.rests w.0 (d.may_leave c.commit.new.disk) w.2.others c.commit.ensures.alone.others;
        other = logs_kept c.args.self.now.shelf before.0 (d.may_leave c.args.disk.now) c.args.self.now.place s.ends.entries c.args.self.now.end s.ends.live s.rests w.0 (d.may_leave c.commit.new.disk) w.2.others c.commit.ensures.alone.others;
      });
    }

pub returns-clause-acknowledged : goal.returns-clause-acknowledged
returns-clause-acknowledged g c x told =
    let d = g.D.Disk in
    let s = c.requires.settled x told in
    let e = ended_by c.args.self.now.shelf x c.args.self.now.place s.ends.entries c.args.self.now.end s.ends.live in
    let front = take c.args.self.now.end (bytes_of (x c.args.self.now.place)) in
    let short : length c.args.body.now ≤ 65536 = omega arith in
    let w = c.in_ok-commit.ensures.works x told front e.long e.shut in (
      w.0,
      w.1,
      record {
        log = more_shelved c.args.self.now.shelf x c.args.self.now.place s.ends.entries c.args.self.now.end front c.args.body.now s.ends.live e short w.0 (beside_now c.args.self.now.shelf x c.args.self.now.place s.ends.entries c.args.self.now.end s.ends.live w.0 w.2.others) w.2.ok;
        spelled = λ bodies h.
            let l = lives c.args.self.now.shelf x c.args.self.now.place _ s.ends.live in
            let long = front_long h ∙ same_end h s.ends.entries c.args.self.now.end l.reads in
            let again = c.in_ok-commit.ensures.works x told (spelled_front h) long (front_shut h) in
            subst (λ (files : Files). HasRecords (files c.args.self.now.place) (bodies ++ c.args.body.now ∷ [])) (same_Some again.0 w.0 (sym again.1 ∙ w.1))
            (records_more h (again.0 c.args.self.now.place) c.args.body.now short again.2.ok);
        others = w.2.others;
      },
    )

pub returns-clause-stands : goal.returns-clause-stands
returns-clause-stands g c x told =
    let before = told_before (g.D.Disk.reads c.args.disk.now) (g.D.Disk.reads c.commit.new.disk) c.commit.ensures.alone.silent x told in
    let d = g.D.Disk in
    let s = c.requires.settled before.0 before.1 in
    let e = ended_by c.args.self.now.shelf before.0 c.args.self.now.place s.ends.entries c.args.self.now.end s.ends.live in
    let front = take c.args.self.now.end (bytes_of (before.0 c.args.self.now.place)) in
    let short : length c.args.body.now ≤ 65536 = omega arith in
    let w = c.in_ok-commit.ensures.works before.0 before.1 front e.long e.shut in
    let same : w.0 ≡ x = same_Some w.0 x (sym w.1 ∙ told) in
    let log = more_shelved c.args.self.now.shelf before.0 c.args.self.now.place s.ends.entries c.args.self.now.end front c.args.body.now s.ends.live e short w.0 (beside_now c.args.self.now.shelf before.0 c.args.self.now.place s.ends.entries c.args.self.now.end s.ends.live w.0 w.2.others) w.2.ok in
    let live = log ∙ ap (added c.args.body.now) s.ends.live in
    let number : c.args.self.now.number + 1 ≡ length (s.ends.entries ++ record { gate = c.args.self.now.end; body = c.args.body.now } ∷ []) = omega (arith, s.ends.number, length-append s.ends.entries (record { gate = c.args.self.now.end; body = c.args.body.now } ∷ [])) in
    after_ok_at w.0 x (d.may_leave c.commit.new.disk) _ same (record {
      ends = record {
        entries = s.ends.entries ++ record { gate = c.args.self.now.end; body = c.args.body.now } ∷ [];
        live = live;
        number = number;
      };
      rests = all_rest c.args.self.now.shelf before.0 w.0 (d.may_leave c.commit.new.disk) c.args.self.now.place _ s.ends.live
          (ready_kept c.args.self.now.shelf before.0 (d.may_leave c.args.disk.now) c.args.self.now.place s.ends.entries c.args.self.now.end s.ends.live s.rests w.0 (d.may_leave c.commit.new.disk) w.2.others c.commit.ensures.alone.others)
          (c.in_ok-commit.ensures.durable w.0 w.1)
          (logs_kept c.args.self.now.shelf before.0 (d.may_leave c.args.disk.now) c.args.self.now.place s.ends.entries c.args.self.now.end s.ends.live s.rests w.0 (d.may_leave c.commit.new.disk) w.2.others c.commit.ensures.alone.others);
      idle = refl;
    })

pub returns-then-body-gt-MOST_BODY-clause-stands : goal.returns-then-body-gt-MOST_BODY-clause-stands
returns-then-body-gt-MOST_BODY-clause-stands g c x told = record { settled = tt; stands = inl (c.requires.settled x told) }

pub returns-then-self-body-gt-MOST-clause-stands : goal.returns-then-self-body-gt-MOST-clause-stands
returns-then-self-body-gt-MOST-clause-stands g c x told = record { settled = tt; stands = inl (c.requires.settled x told) }

pub returns-then-body-gt-MOST_BODY-clause-alone : goal.returns-then-body-gt-MOST_BODY-clause-alone
returns-then-body-gt-MOST_BODY-clause-alone g c =
    let d = g.D.Disk in
    alone_only (λ q. q ≢ place_of c.args.self.now) (only_start d.reads d.may_leave d.moment d.left_since d.faults c.args.disk.now (g.met.D.Disk.only_now c.args.disk.now))

pub returns-then-self-body-gt-MOST-clause-alone : goal.returns-then-self-body-gt-MOST-clause-alone
returns-then-self-body-gt-MOST-clause-alone g c =
    let d = g.D.Disk in
    alone_only (λ q. q ≢ place_of c.args.self.now) (only_start d.reads d.may_leave d.moment d.left_since d.faults c.args.disk.now (g.met.D.Disk.only_now c.args.disk.now))
