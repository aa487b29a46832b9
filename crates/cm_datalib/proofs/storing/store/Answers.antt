use Rattle.std.proofs.Common.{◌≡◌, ℕ, List, ◌++◌, length, sym, ◌∙◌, ap, subst, arith}
use Rattle.std.specs.Prelude.{◌≢◌, Some}
use Rattle.std.specs.List.{flat_map}
use Rattle.cm_disk.specs.Disk.{File, Files, LeavesOnly, Only, put, written, shortened}
use Rattle.cm_disk.proofs.Puts.{put_here}
use Rattle.cm_tree.specs.Manifests.{spelling, entry_bytes}
use Rattle.cm_datalib.specs.Places.{manifest_place}
use Rattle.cm_datalib.specs.Spellings.{spelled_file}
use Rattle.cm_datalib.proofs.Alone.{alone_start, alone_next, alone_join}
use Rattle.cm_datalib.proofs.Writes.{fails, put_same, partly_none, partly_all, cut_sent, does_ok}
use Rattle.cm_datalib.proofs.Stores.{spelled, front_partly, all_partly, body_partly, cut_partly, both_sent, end_of, cut_there}
use Rattle.cm_datalib.proofs.storing.store.Goals as goal

pub returns-in_err-write_at-clause-work : goal.returns-in_err-write_at-clause-work
returns-in_err-write_at-clause-work g c =
    let d = g.D.Disk in
    let place = c.manifest_at-place.result in
    let front = c.header_of-header.result in
    let body = flat_map entry_bytes c.entries-entries.result.now in
    let is = spelled c.args.manifest.now c.entries-entries.result.now front c.header_of-header.ensures c.entries-entries.ensures.value in
    fails (d.reads c.args.disk.now) (d.reads c.args.disk.now) (d.reads c.write_at.new.self) place (manifest_place c.args.package c.args.version) (spelled_file c.args.manifest.now) (λ (f : File). f) (written 0 front)
    c.from_residual.result c.from_residual.ensures.0 c.manifest_at-place.ensures (λ files told. told ∙ ap (λ (f : Files). Some f) (sym (put_same files place))) (λ none. none)
    (λ files told. partly_none (files place) (Some (spelling c.args.manifest.now)))
    (λ files told. front_partly (files place) front body (spelling c.args.manifest.now) is)
    c.in_err-write_at.ensures.work.err c.write_at.ensures.work.silent

pub returns-in_err-end-clause-work : goal.returns-in_err-end-clause-work
returns-in_err-end-clause-work g c =
    let d = g.D.Disk in
    let place = c.manifest_at-place.result in
    let front = c.header_of-header.result in
    let body = flat_map entry_bytes c.entries-entries.result.now in
    let is = spelled c.args.manifest.now c.entries-entries.result.now front c.header_of-header.ensures c.entries-entries.ensures.value in
    let long : 9 ≡ length front = omega arith in
    fails (d.reads c.args.disk.now) (d.reads c.write_at.new.self) (d.reads c.write_entries.new.disk) place (manifest_place c.args.package c.args.version) (spelled_file c.args.manifest.now) (written 0 front) (written 9 body)
    c.from_residual-in_err-end.result c.from_residual-in_err-end.ensures.0 c.manifest_at-place.ensures c.in_ok-write_at.ensures.work.ok c.write_at.ensures.work.silent
    (λ files told. front_partly (files place) front body (spelling c.args.manifest.now) is)
    (λ files told. body_partly (files place) front body (spelling c.args.manifest.now) is long)
    c.in_err-end.ensures.work.err c.write_entries.ensures.work.silent

pub cut-requires : goal.cut-requires
cut-requires g c =
    let d = g.D.Disk in
    let place = c.manifest_at-place.result in
    let front = c.header_of-header.result in
    let body = flat_map entry_bytes c.entries-entries.result.now in
    let long : 9 ≡ length front = omega arith in
    let sent = both_sent (d.reads c.args.disk.now) (d.reads c.write_at.new.self) (d.reads c.write_entries.new.disk) place front body long c.in_ok-write_at.ensures.work.ok c.write_at.ensures.work.silent c.in_ok-end.ensures.work.ok c.write_entries.ensures.work.silent in
    cut_there (d.reads c.args.disk.now) (d.reads c.write_entries.new.disk) place (front ++ body) c.in_ok-end.end (end_of front body c.in_ok-end.end long c.in_ok-end.ensures.end) sent

pub returns-in_err-cut-clause-work : goal.returns-in_err-cut-clause-work
returns-in_err-cut-clause-work g c =
    let d = g.D.Disk in
    let place = c.manifest_at-place.result in
    let front = c.header_of-header.result in
    let body = flat_map entry_bytes c.entries-entries.result.now in
    let is = spelled c.args.manifest.now c.entries-entries.result.now front c.header_of-header.ensures c.entries-entries.ensures.value in
    let long : 9 ≡ length front = omega arith in
    let sent = both_sent (d.reads c.args.disk.now) (d.reads c.write_at.new.self) (d.reads c.write_entries.new.disk) place front body long c.in_ok-write_at.ensures.work.ok c.write_at.ensures.work.silent c.in_ok-end.ensures.work.ok c.write_entries.ensures.work.silent in
    fails (d.reads c.args.disk.now) (d.reads c.write_entries.new.disk) (d.reads c.cut.new.self) place (manifest_place c.args.package c.args.version) (spelled_file c.args.manifest.now) (written 0 (front ++ body)) (shortened c.in_ok-end.end)
    c.from_residual-in_err-cut.result c.from_residual-in_err-cut.ensures.0 c.manifest_at-place.ensures sent.told sent.silent
    (λ files told. all_partly (files place) front body (spelling c.args.manifest.now) is)
    (λ files told. cut_partly (files place) front body (spelling c.args.manifest.now) is c.in_ok-end.end (end_of front body c.in_ok-end.end long c.in_ok-end.ensures.end))
    c.in_err-cut.ensures.work.err c.cut.ensures.work.silent

pub returns-in_err-cut-clause-run : goal.returns-in_err-cut-clause-run
returns-in_err-cut-clause-run g c =
    let d = g.D.Disk in
    let place = c.manifest_at-place.result in
    let first = alone_next d.may_leave d.moment d.left_since place c.args.disk.now c.args.disk.now c.write_at.new.self (alone_start d.may_leave d.moment d.left_since place c.args.disk.now (g.met.D.Disk.only_now c.args.disk.now)) c.write_at.ensures.time c.write_at.ensures.touches.others in
    let second = alone_join d.may_leave d.moment d.left_since place c.args.disk.now c.write_at.new.self c.write_entries.new.disk first c.write_entries.ensures.run c.write_entries.ensures.others in
    let third = alone_next d.may_leave d.moment d.left_since place c.args.disk.now c.write_entries.new.disk c.cut.new.self second c.cut.ensures.time c.cut.ensures.touches.others in
    subst (λ (p : List ℕ). LeavesOnly d.moment d.left_since c.args.disk.now c.cut.new.self (λ (left : Files). (q : List ℕ) → q ≢ p → d.may_leave c.args.disk.now q (left q))) c.manifest_at-place.ensures third.run

pub returns-in_err-sync-clause-work : goal.returns-in_err-sync-clause-work
returns-in_err-sync-clause-work g c =
    let d = g.D.Disk in
    let place = c.manifest_at-place.result in
    let front = c.header_of-header.result in
    let body = flat_map entry_bytes c.entries-entries.result.now in
    let is = spelled c.args.manifest.now c.entries-entries.result.now front c.header_of-header.ensures c.entries-entries.ensures.value in
    let long : 9 ≡ length front = omega arith in
    let sent = both_sent (d.reads c.args.disk.now) (d.reads c.write_at.new.self) (d.reads c.write_entries.new.disk) place front body long c.in_ok-write_at.ensures.work.ok c.write_at.ensures.work.silent c.in_ok-end.ensures.work.ok c.write_entries.ensures.work.silent in
    let stands = cut_sent (d.reads c.args.disk.now) (d.reads c.write_entries.new.disk) (d.reads c.cut.new.self) place (front ++ body) c.in_ok-end.end (end_of front body c.in_ok-end.end long c.in_ok-end.ensures.end) sent c.in_ok-cut.ensures.work.ok in
    fails (d.reads c.args.disk.now) (d.reads c.cut.new.self) (d.reads c.sync.new.self) place (manifest_place c.args.package c.args.version) (spelled_file c.args.manifest.now) (spelled_file c.args.manifest.now) (λ (f : File). f)
    c.from_residual-in_err-sync.result c.from_residual-in_err-sync.ensures.0 c.manifest_at-place.ensures
    (λ files told. stands files told ∙ ap (λ (l : List ℕ). Some (put files place (Some l))) (sym is)) (λ none. c.cut.ensures.work.silent (sent.silent none))
    (λ files told. partly_all (files place) (Some (spelling c.args.manifest.now)))
    (λ files told. partly_all (files place) (Some (spelling c.args.manifest.now)))
    (λ files told. (files place, c.sync.ensures.same ∙ told ∙ ap (λ (f : Files). Some f) (sym (put_same files place)), partly_none (files place) (files place)))
    (λ none. c.sync.ensures.same ∙ none)

pub returns-in_err-sync-clause-run : goal.returns-in_err-sync-clause-run
returns-in_err-sync-clause-run g c =
    let d = g.D.Disk in
    let place = c.manifest_at-place.result in
    let first = alone_next d.may_leave d.moment d.left_since place c.args.disk.now c.args.disk.now c.write_at.new.self (alone_start d.may_leave d.moment d.left_since place c.args.disk.now (g.met.D.Disk.only_now c.args.disk.now)) c.write_at.ensures.time c.write_at.ensures.touches.others in
    let second = alone_join d.may_leave d.moment d.left_since place c.args.disk.now c.write_at.new.self c.write_entries.new.disk first c.write_entries.ensures.run c.write_entries.ensures.others in
    let third = alone_next d.may_leave d.moment d.left_since place c.args.disk.now c.write_entries.new.disk c.cut.new.self second c.cut.ensures.time c.cut.ensures.touches.others in
    let last = alone_next d.may_leave d.moment d.left_since place c.args.disk.now c.cut.new.self c.sync.new.self third c.sync.ensures.time (λ q file other left. c.sync.ensures.stop q file left) in
    subst (λ (p : List ℕ). LeavesOnly d.moment d.left_since c.args.disk.now c.sync.new.self (λ (left : Files). (q : List ℕ) → q ≢ p → d.may_leave c.args.disk.now q (left q))) c.manifest_at-place.ensures last.run

pub returns-clause-work : goal.returns-clause-work
returns-clause-work g c =
    let d = g.D.Disk in
    let place = c.manifest_at-place.result in
    let front = c.header_of-header.result in
    let body = flat_map entry_bytes c.entries-entries.result.now in
    let is = spelled c.args.manifest.now c.entries-entries.result.now front c.header_of-header.ensures c.entries-entries.ensures.value in
    let long : 9 ≡ length front = omega arith in
    let sent = both_sent (d.reads c.args.disk.now) (d.reads c.write_at.new.self) (d.reads c.write_entries.new.disk) place front body long c.in_ok-write_at.ensures.work.ok c.write_at.ensures.work.silent c.in_ok-end.ensures.work.ok c.write_entries.ensures.work.silent in
    let stands = cut_sent (d.reads c.args.disk.now) (d.reads c.write_entries.new.disk) (d.reads c.cut.new.self) place (front ++ body) c.in_ok-end.end (end_of front body c.in_ok-end.end long c.in_ok-end.ensures.end) sent c.in_ok-cut.ensures.work.ok in
    does_ok (d.reads c.args.disk.now) (d.reads c.sync.new.self) place (manifest_place c.args.package c.args.version) (spelled_file c.args.manifest.now) _ c.manifest_at-place.ensures
    (λ files told. c.sync.ensures.same ∙ stands files told ∙ ap (λ (l : List ℕ). Some (put files place (Some l))) (sym is)) (λ none. c.sync.ensures.same ∙ c.cut.ensures.work.silent (sent.silent none))

pub returns-clause-durable : goal.returns-clause-durable
returns-clause-durable g c files told =
    let d = g.D.Disk in
    let place = c.manifest_at-place.result in
    let front = c.header_of-header.result in
    let body = flat_map entry_bytes c.entries-entries.result.now in
    let is = spelled c.args.manifest.now c.entries-entries.result.now front c.header_of-header.ensures c.entries-entries.ensures.value in
    let long : 9 ≡ length front = omega arith in
    let sent = both_sent (d.reads c.args.disk.now) (d.reads c.write_at.new.self) (d.reads c.write_entries.new.disk) place front body long c.in_ok-write_at.ensures.work.ok c.write_at.ensures.work.silent c.in_ok-end.ensures.work.ok c.write_entries.ensures.work.silent in
    let stands = cut_sent (d.reads c.args.disk.now) (d.reads c.write_entries.new.disk) (d.reads c.cut.new.self) place (front ++ body) c.in_ok-end.end (end_of front body c.in_ok-end.end long c.in_ok-end.ensures.end) sent c.in_ok-cut.ensures.work.ok in
    let only = c.in_ok-sync.ensures.durable (put files place (Some (front ++ body))) (stands files told) in
    subst (λ (p : List ℕ). Only (Some (spelling c.args.manifest.now)) (d.may_leave c.sync.new.self p)) c.manifest_at-place.ensures
    (subst (λ (f : File). Only f (d.may_leave c.sync.new.self place)) (put_here files place (Some (front ++ body)) ∙ ap (λ (l : List ℕ). Some l) (sym is)) only)

pub returns-clause-run : goal.returns-clause-run
returns-clause-run g c =
    let d = g.D.Disk in
    let place = c.manifest_at-place.result in
    let first = alone_next d.may_leave d.moment d.left_since place c.args.disk.now c.args.disk.now c.write_at.new.self (alone_start d.may_leave d.moment d.left_since place c.args.disk.now (g.met.D.Disk.only_now c.args.disk.now)) c.write_at.ensures.time c.write_at.ensures.touches.others in
    let second = alone_join d.may_leave d.moment d.left_since place c.args.disk.now c.write_at.new.self c.write_entries.new.disk first c.write_entries.ensures.run c.write_entries.ensures.others in
    let third = alone_next d.may_leave d.moment d.left_since place c.args.disk.now c.write_entries.new.disk c.cut.new.self second c.cut.ensures.time c.cut.ensures.touches.others in
    let last = alone_next d.may_leave d.moment d.left_since place c.args.disk.now c.cut.new.self c.sync.new.self third c.sync.ensures.time (λ q file other left. c.sync.ensures.stop q file left) in
    subst (λ (p : List ℕ). LeavesOnly d.moment d.left_since c.args.disk.now c.sync.new.self (λ (left : Files). (q : List ℕ) → q ≢ p → d.may_leave c.args.disk.now q (left q))) c.manifest_at-place.ensures last.run
