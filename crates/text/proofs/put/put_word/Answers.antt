-- `put::put_word` meets its contract: the places, and the last digit. Assumes nothing.
use Rattle.std.proofs.Common.{arith, rules, ◌∙◌}
use Rattle.text.proofs.PlaceLaws.{length-places, places_after}
use Rattle.text.proofs.put.put_word.Goals as goal

pub put_place-requires : goal.put_place-requires
put_place-requires g c =
    let all = length-places c.args.n (omega (arith, c.ranges.n.fits)) in
    (search rules, (omega arith, omega (arith, c.requires, all)))

pub put_place-requires-2 : goal.put_place-requires-2
put_place-requires-2 g c =
    let all = length-places c.args.n (omega (arith, c.ranges.n.fits)) in
    (search rules, (omega arith, omega (arith, c.requires, all, c.put_place.ensures.len)))

pub put_place-requires-3 : goal.put_place-requires-3
put_place-requires-3 g c =
    let all = length-places c.args.n (omega (arith, c.ranges.n.fits)) in
    (search rules, (omega arith, omega (arith, c.requires, all, c.put_place.ensures.len, c.put_place-2.ensures.len)))

pub put_place-requires-4 : goal.put_place-requires-4
put_place-requires-4 g c =
    let all = length-places c.args.n (omega (arith, c.ranges.n.fits)) in
    (search rules, (omega arith, omega (arith, c.requires, all, c.put_place.ensures.len, c.put_place-2.ensures.len, c.put_place-3.ensures.len)))

pub put_byte-requires : goal.put_byte-requires
put_byte-requires g c =
    let all = length-places c.args.n (omega (arith, c.ranges.n.fits)) in (
      search rules,
      omega (arith, c.requires, all, c.put_place.ensures.len, c.put_place-2.ensures.len, c.put_place-3.ensures.len, c.put_place-4.ensures.len),
    )

pub returns-clause-items : goal.returns-clause-items
returns-clause-items g c =
    c.put_byte.ensures.items
    ∙ rw (c.put_place-4.ensures.items, c.put_place-3.ensures.items, c.put_place-2.ensures.items, c.put_place.ensures.items)
    (places_after c.args.n (omega (arith, c.ranges.n.fits)) c.args.line.now.items)

pub returns-clause-len : goal.returns-clause-len
returns-clause-len g c =
    let all = length-places c.args.n (omega (arith, c.ranges.n.fits)) in
    omega (
      arith,
      all,
      c.put_byte.ensures.len,
      c.put_place.ensures.len,
      c.put_place-2.ensures.len,
      c.put_place-3.ensures.len,
      c.put_place-4.ensures.len,
    )
