use Rattle.std.proofs.Common.{◌≡◌, List, length, Ok, sym, ◌∙◌, ap, arith}
use Rattle.std.proofs.lemmas.List.{length-map}
use Rattle.hosts_join.specs.declared.Row.{Row}
use Rattle.hosts_join.specs.Rules.{joined}
use Rattle.hosts_join.specs.Settled.{IsSettled, joined_from}
use Rattle.hosts_join.specs.Views.{entry_of, rows_of, row_of}
use Rattle.hosts_join.proofs.Grouping.{length-grouped}
use Rattle.hosts_join.proofs.Lawful.{lawful}
use Rattle.hosts_join.proofs.Once.{grouped-once}
use Rattle.hosts_join.proofs.names.join_rows.Goals as goal

length-rows : (rows : List Row) → length (rows_of rows) ≡ length rows
length-rows rows = length-map rows row_of

pub settle-requires-clause-few : goal.settle-requires-clause-few
settle-requires-clause-few c = omega (arith, ap length c.in_ok-index.ensures.accounts, length-grouped (rows_of c.args.rows.now), c.requires.few, length-rows c.args.rows.now)

pub returns : goal.returns
returns c =
    let exact : joined c.args.kind (joined_from c.args.hosts.items c.in_ok-index.index c.args.pins.now c.args.reserved.now) ≡ Ok (joined_from c.args.hosts.items c.in_ok-index.index c.args.pins.now c.args.reserved.now) = rw c.as_slice.ensures.value at c.in_ok-settled.ensures.exact in
    rw (← c.in_ok-index.ensures.accounts, c.in_ok-given.ensures.pins, c.in_ok-given.ensures.reserved) exact

pub invariant_of-result : goal.invariant_of-result
invariant_of-result c =
    let a = joined_from c.args.hosts.items c.in_ok-index.index c.args.pins.now c.args.reserved.now in
    let settled : IsSettled a c.in_ok-settled.settled = rw c.as_slice.ensures.value at c.in_ok-settled.ensures.settled in
    record {
      index = c.in_ok-index.ensures.sound;
      few = omega (arith, ap length c.in_ok-index.ensures.accounts, length-grouped (rows_of c.args.rows.now), c.requires.few, length-rows c.args.rows.now);
      once = λ i. rw c.in_ok-index.ensures.accounts (grouped-once (rows_of c.args.rows.now) i c.requires.named);
      lines = sym c.in_ok-index.ensures.lines;
      few_lines = c.requires.few;
      classes = rw c.in_ok-given.ensures.pins settled.classes;
      order = settled.order;
      regular = rw (c.in_ok-given.ensures.pins, c.in_ok-given.ensures.reserved) settled.pools.regular;
      system = rw (c.in_ok-given.ensures.pins, c.in_ok-given.ensures.reserved) settled.pools.system;
      none = c.new.ensures;
      enough_regular = rw (c.in_ok-given.ensures.pins, c.in_ok-given.ensures.reserved) settled.enough_regular;
      enough_system = rw (c.in_ok-given.ensures.pins, c.in_ok-given.ensures.reserved) settled.enough_system;
      lawful = rw (c.in_ok-given.ensures.pins, c.in_ok-given.ensures.reserved) (lawful a (rows_of c.args.rows.now) c.in_ok-index.ensures.accounts settled.apart
          c.requires.named c.requires.lawful (omega (arith, c.requires.few, length-rows c.args.rows.now)) (c.in_ok-index.ensures.lines ∙ sym (length-rows c.args.rows.now)) (rw (length-map c.args.hosts.items entry_of) c.requires.among) c.requires.spots c.requires.pins (λ v r s. omega (arith, c.requires.ranges v r s, length-rows c.args.rows.now)));
    }
