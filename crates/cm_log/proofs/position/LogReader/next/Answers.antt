use Rattle.std.proofs.Common.{◌≡◌, List, ℕ, ◌+◌, ◌≤◌, ◌<◌, [], ◌∷◌, ◌++◌, take, sym, ◌∙◌, ap, arith, append_assoc, length-append}
use Rattle.cm_disk.specs.Disk.{bytes_of}
use Rattle.cm_log.specs.declared.prefix.Prefix.{Prefix}
use Rattle.cm_log.specs.Logs.{Entry, Reading, Closed, Broken, Live, ended, following, read_by, reading_at}
use Rattle.cm_log.proofs.Frames.{only_then}
use Rattle.cm_log.proofs.Rest.{rests_kept}
use Rattle.cm_log.proofs.Steps.{prefix_body, by_prefix, cut_step, body_cut, body_whole, body_within}
use Rattle.cm_log.proofs.position.LogReader.next.Goals as goal

not_over : {first : Entry} {rest reading : Reading} {at : ℕ} → reading ≡ following (first ∷ []) rest → reading ≡ ended (Closed at) → ⊥
not_over {first} {rest} {reading} {at} some none =
    let e : first ∷ rest.entries ≡ [] = ap (λ (r : Reading). r.entries) (sym some ∙ none) in
    absurd (cc)

pub read_at-requires-clause-ahead : goal.read_at-requires-clause-ahead
read_at-requires-clause-ahead g c x told = (c.requires.reading x told).at.ahead

pub returns-in_err-count-clause-reading : goal.returns-in_err-count-clause-reading
returns-in_err-count-clause-reading g c x told =
    let d = g.D.Disk in
    let r = c.requires.reading x (sym c.read_at.ensures.only.same ∙ told) in
    record {
      at = record { passed = r.at.passed; live = r.at.live; number = r.at.number; within = r.at.within; ended = r.at.ended; ahead = c.read_at.ensures.ahead x told };
      rests = rests_kept c.args.self.now.shelf x (d.may_leave c.args.disk.now) (d.may_leave c.read_at.new.disk) c.read_at.ensures.only.stop r.rests;
    }

pub returns-in_err-count-in-Body-clause-reading : goal.returns-in_err-count-in-Body-clause-reading
returns-in_err-count-in-Body-clause-reading g c x told =
    let d = g.D.Disk in
    let r = c.requires.reading x (sym c.read_at.ensures.only.same ∙ (sym c.read_at-in-Body.ensures.only.same ∙ told)) in
    record {
      at = record { passed = r.at.passed; live = r.at.live; number = r.at.number; within = r.at.within; ended = r.at.ended; ahead = c.read_at-in-Body.ensures.ahead x told };
      rests = rests_kept c.args.self.now.shelf x (d.may_leave c.args.disk.now) (d.may_leave c.read_at-in-Body.new.disk) (λ q file left. c.read_at.ensures.only.stop q file (c.read_at-in-Body.ensures.only.stop q file left)) r.rests;
    }

pub returns-then-count-len-clause-reading : goal.returns-then-count-len-clause-reading
returns-then-count-len-clause-reading g c x told =
    let d = g.D.Disk in
    let r = c.requires.reading x (sym c.read_at.ensures.only.same ∙ (sym c.read_at-in-Body.ensures.only.same ∙ told)) in
    record {
      at = record { passed = r.at.passed; live = r.at.live; number = r.at.number; within = r.at.within; ended = r.at.ended; ahead = c.read_at-in-Body.ensures.ahead x told };
      rests = rests_kept c.args.self.now.shelf x (d.may_leave c.args.disk.now) (d.may_leave c.read_at-in-Body.new.disk) (λ q file left. c.read_at.ensures.only.stop q file (c.read_at-in-Body.ensures.only.stop q file left)) r.rests;
    }

pub returns-in-Cut-clause-reading : goal.returns-in-Cut-clause-reading
returns-in-Cut-clause-reading g c x told =
    let d = g.D.Disk in
    let r = c.requires.reading x (sym c.read_at.ensures.only.same ∙ told) in
    record {
      at = record { passed = r.at.passed; live = r.at.live; number = r.at.number; within = r.at.within; ended = r.at.ended; ahead = c.read_at.ensures.ahead x told };
      rests = rests_kept c.args.self.now.shelf x (d.may_leave c.args.disk.now) (d.may_leave c.read_at.new.disk) c.read_at.ensures.only.stop r.rests;
    }

pub returns-in-TooLong-clause-reading : goal.returns-in-TooLong-clause-reading
returns-in-TooLong-clause-reading g c x told =
    let d = g.D.Disk in
    let r = c.requires.reading x (sym c.read_at.ensures.only.same ∙ told) in
    record {
      at = record { passed = r.at.passed; live = r.at.live; number = r.at.number; within = r.at.within; ended = r.at.ended; ahead = c.read_at.ensures.ahead x told };
      rests = rests_kept c.args.self.now.shelf x (d.may_leave c.args.disk.now) (d.may_leave c.read_at.new.disk) c.read_at.ensures.only.stop r.rests;
    }

pub returns-in_err-count-in-Body-clause-only : goal.returns-in_err-count-in-Body-clause-only
returns-in_err-count-in-Body-clause-only g c = only_then c.read_at.ensures.only c.read_at-in-Body.ensures.only

pub returns-then-count-len-clause-only : goal.returns-then-count-len-clause-only
returns-then-count-len-clause-only g c = only_then c.read_at.ensures.only c.read_at-in-Body.ensures.only

pub returns-else-count-len-clause-only : goal.returns-else-count-len-clause-only
returns-else-count-len-clause-only g c = only_then c.read_at.ensures.only c.read_at-in-Body.ensures.only

pub returns-in-Shut-clause-none : goal.returns-in-Shut-clause-none
returns-in-Shut-clause-none g c x told =
    by_prefix (x c.args.self.now.place) c.args.self.now.at c.read_at.new.buf c.in_ok-count.count (omega arith) (c.in_ok-count.ensures.bytes x told) c.read_prefix.result c.read_prefix.ensures ∙ ap (λ (p : Prefix). read_by p (bytes_of (x c.args.self.now.place)) c.args.self.now.at (reading_at (bytes_of (x c.args.self.now.place)))) c.in-Shut.is

pub returns-in-Cut-clause-unreadable : goal.returns-in-Cut-clause-unreadable
returns-in-Cut-clause-unreadable g c place at is =
    let here : c.args.self.now.place ≡ place = cc in
    let there : c.args.self.now.at + c.in_ok-count.count ≡ at = cc in (
      sym here,
      λ x told. cut_step (x c.args.self.now.place) c.args.self.now.at c.read_at.new.buf c.in_ok-count.count (omega arith) (c.in_ok-count.ensures.bytes x told) c.read_prefix.result c.read_prefix.ensures c.in-Cut.is (c.requires.reading x told).at.within
          ∙ ap (λ (n : ℕ). ended (Broken n)) there,
    )

pub returns-in-TooLong-clause-unreadable : goal.returns-in-TooLong-clause-unreadable
returns-in-TooLong-clause-unreadable g c place at is =
    let here : c.args.self.now.place ≡ place = cc in
    let there : c.args.self.now.at + 1 ≡ at = cc in (
      sym here,
      λ x told. by_prefix (x c.args.self.now.place) c.args.self.now.at c.read_at.new.buf c.in_ok-count.count (omega arith) (c.in_ok-count.ensures.bytes x told) c.read_prefix.result c.read_prefix.ensures ∙ ap (λ (p : Prefix). read_by p (bytes_of (x c.args.self.now.place)) c.args.self.now.at (reading_at (bytes_of (x c.args.self.now.place)))) c.in-TooLong.is ∙ ap (λ (n : ℕ). ended (Broken n)) there,
    )

pub returns-then-count-len-clause-unreadable : goal.returns-then-count-len-clause-unreadable
returns-then-count-len-clause-unreadable g c place at is =
    let here : c.args.self.now.place ≡ place = cc in
    let there : c.args.self.now.at + 5 + c.in_ok-count-in-Body.count ≡ at = cc in
    let less : c.in_ok-count-in-Body.count < c.in-Body.len = omega arith in (
      sym here,
      λ x told. body_cut (x c.args.self.now.place) c.args.self.now.at c.read_at.new.buf c.in_ok-count.count (omega arith) (c.in_ok-count.ensures.bytes x told) c.read_prefix.result c.in-Body.len c.read_prefix.ensures c.in-Body.is c.read_at-in-Body.new.buf c.in_ok-count-in-Body.count (omega arith) (c.in_ok-count-in-Body.ensures.bytes x (c.read_at.ensures.only.same ∙ told)) less ∙ ap (λ (n : ℕ). ended (Broken n)) there,
    )

pub returns-in-Shut-clause-reading : goal.returns-in-Shut-clause-reading
returns-in-Shut-clause-reading g c x told =
    let d = g.D.Disk in
    let before = (sym c.read_at.ensures.only.same ∙ told) in
    let r = c.requires.reading x before in
    record {
      at = record {
        passed = r.at.passed;
        live = r.at.live;
        number = r.at.number;
        within = r.at.within;
        ended = λ e. by_prefix (x c.args.self.now.place) c.args.self.now.at c.read_at.new.buf c.in_ok-count.count (omega arith) (c.in_ok-count.ensures.bytes x before) c.read_prefix.result c.read_prefix.ensures ∙ ap (λ (p : Prefix). read_by p (bytes_of (x c.args.self.now.place)) c.args.self.now.at (reading_at (bytes_of (x c.args.self.now.place)))) c.in-Shut.is;
        ahead = c.read_at.ensures.ahead x told;
      };
      rests = rests_kept c.args.self.now.shelf x (d.may_leave c.args.disk.now) (d.may_leave c.read_at.new.disk) c.read_at.ensures.only.stop r.rests;
    }

pub returns-else-count-len-clause-reading : goal.returns-else-count-len-clause-reading
returns-else-count-len-clause-reading g c x told =
    let d = g.D.Disk in
    let before = (sym c.read_at.ensures.only.same ∙ (sym c.read_at-in-Body.ensures.only.same ∙ told)) in
    let r = c.requires.reading x before in
    let all : c.in-Body.len ≤ c.in_ok-count-in-Body.count = omega arith in
    let step = body_whole (x c.args.self.now.place) c.args.self.now.at c.read_at.new.buf c.in_ok-count.count (omega arith) (c.in_ok-count.ensures.bytes x before) c.read_prefix.result c.in-Body.len c.read_prefix.ensures c.in-Body.is c.read_at-in-Body.new.buf c.in_ok-count-in-Body.count (omega arith) (c.in_ok-count-in-Body.ensures.bytes x (c.read_at.ensures.only.same ∙ before)) all [] in
    let entry : Entry = record { gate = c.args.self.now.at; body = take c.in-Body.len (c.read_at-in-Body.new.buf ++ []) } in
    record {
      at = record {
        passed = r.at.passed ++ entry ∷ [];
        live = r.at.live ∙ ap (λ (t : Reading). Live c.args.self.now.place (following r.at.passed t)) step
            ∙ ap (λ (l : List Entry). Live c.args.self.now.place (record { entries = l; ending = (reading_at (bytes_of (x c.args.self.now.place)) (c.args.self.now.at + 5 + c.in-Body.len)).ending })) (sym (append_assoc r.at.passed (entry ∷ []) (reading_at (bytes_of (x c.args.self.now.place)) (c.args.self.now.at + 5 + c.in-Body.len)).entries));
        number = omega (arith, r.at.number, length-append r.at.passed (entry ∷ []));
        within = body_within (x c.args.self.now.place) c.args.self.now.at c.read_at.new.buf c.in_ok-count.count (omega arith) (c.in_ok-count.ensures.bytes x before) c.read_prefix.result c.in-Body.len c.read_prefix.ensures c.in-Body.is c.read_at-in-Body.new.buf c.in_ok-count-in-Body.count (omega arith) (c.in_ok-count-in-Body.ensures.bytes x (c.read_at.ensures.only.same ∙ before)) all;
        ended = λ e. absurd (not_over step (r.at.ended e));
        ahead = c.read_at-in-Body.ensures.ahead x told;
      };
      rests = rests_kept c.args.self.now.shelf x (d.may_leave c.args.disk.now) (d.may_leave c.read_at-in-Body.new.disk) (λ q file left. c.read_at.ensures.only.stop q file (c.read_at-in-Body.ensures.only.stop q file left)) r.rests;
    }

pub returns-else-count-len-clause-some : goal.returns-else-count-len-clause-some
returns-else-count-len-clause-some g c =
    let all : c.in-Body.len ≤ c.in_ok-count-in-Body.count = omega arith in (
      (prefix_body (take c.in_ok-count.count c.read_at.new.buf) c.in-Body.len (sym c.read_prefix.ensures ∙ c.in-Body.is)).1,
      λ x told. body_whole (x c.args.self.now.place) c.args.self.now.at c.read_at.new.buf c.in_ok-count.count (omega arith) (c.in_ok-count.ensures.bytes x told) c.read_prefix.result c.in-Body.len c.read_prefix.ensures c.in-Body.is c.read_at-in-Body.new.buf c.in_ok-count-in-Body.count (omega arith) (c.in_ok-count-in-Body.ensures.bytes x (c.read_at.ensures.only.same ∙ told)) all _,
    )
