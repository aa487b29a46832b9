use Rattle.cm_library.proofs.Stepping.{next_same, above_same, nearer_same}
use Rattle.cm_library.proofs.stored.next_in_folders.Goals as goal

pub returns-clause-least : goal.returns-clause-least
returns-clause-least g c = next_same (g.D.Disk.reads c.args.disk.now) c.args.after c.next_of_form.result c.next_of_form.ensures.least

pub returns-clause-above : goal.returns-clause-above
returns-clause-above g c = above_same c.args.after c.next_of_form.result c.next_of_form.ensures.above

pub returns-clause-nearer : goal.returns-clause-nearer
returns-clause-nearer g c = nearer_same c.args.after c.next_of_form.result c.next_of_form.ensures.nearer

pub returns-clause-only : goal.returns-clause-only
returns-clause-only g c = record {
  same = c.next_of_form.ensures.same;
  stop = c.next_of_form.ensures.stop;
  run = c.next_of_form.ensures.run;
  later = c.next_of_form.ensures.cause.later;
}
