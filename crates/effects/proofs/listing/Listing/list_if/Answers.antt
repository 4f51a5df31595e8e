use Rattle.std.proofs.Common.{refl, inl, inr, ap}
use Rattle.rules.specs.Lists.{keep_if}
use Rattle.stated.specs.Wrote.{wrote_as}
use Rattle.effects.specs.Entry.{wrote_if}
use Rattle.effects.proofs.listing.Listing.list_if.Goals.{then-when, else-when}
use Rattle.effects.proofs.listing.Listing.list_if.Goals as goal

pub returns : goal.returns
returns c =
    record {
      wrote = wrote_as
          (wrote_if c.args.self.now.entries.now c.args.self.now.count _ c.args.when c.if-when.next
          (elim c.if-when.branch [ then-when w ↦ inl (w.if-when.true, w.next-is) | else-when w ↦ inr (w.if-when.false, w.next-is) ]))
          (ap (keep_if c.args.when) c.number.ensures);
      same_entries = refl;
      settings = refl;
    }
