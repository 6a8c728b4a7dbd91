use Rattle.std.proofs.Common.{◌∙◌, arith, sym}
use Rattle.ss_schedule.proofs.MergeLemmas.{IsKeyed-joined_last, IsKeyed-joined_next, IsNext-read, room-left, room-next, room-right, span-left, span-next}
use Rattle.ss_schedule.proofs.schedule.Schedule.merged.Goals as goal

pub put-requires-clause-room : goal.put-requires-clause-room
put-requires-clause-room g c =
    room-right c.args.n c.args.line.now.entries c.args.pair.left c.args.pair.right c.requires.neighbours.neighbours c.len-len.ensures.line.apart
    c.args.self.now c.requires.keyed

pub put-requires-2-clause-room : goal.put-requires-2-clause-room
put-requires-2-clause-room g c =
    let left = room-left c.args.n c.args.line.now.entries c.args.pair.left c.args.pair.right c.requires.neighbours.neighbours c.len-len.ensures.line.apart
    c.args.self.now c.requires.keyed in
    omega (arith, left, c.put.ensures.room)

pub put-requires-2-clause-span : goal.put-requires-2-clause-span
put-requires-2-clause-span g c =
    let it = c.requires.neighbours.neighbours in
    span-left c.args.n c.args.line.now.entries c.args.pair.left c.args.pair.right it c.len-len.ensures.line.apart c.args.self.now c.requires.keyed
    c.join-joined.new.line.entries (c.join-joined.ensures.joined it) c.pair_before-previous.result c.pair_before-previous.ensures.pair

pub put-requires-in-Some-clause-room : goal.put-requires-in-Some-clause-room
put-requires-in-Some-clause-room g c =
    let it = c.requires.neighbours.neighbours in
    let is = c.in-Some.ensures.pair.1 in
    let next = IsNext-read c.args.n c.args.line.now.entries c.args.pair.left c.args.pair.right it c.len-len.ensures.line.apart c.args.self.now c.requires.keyed
    c.join-joined.new.line.entries (c.join-joined.ensures.joined it) c.in-Some.pair c.join-joined.ensures.line.apart
    (sym c.in-Some.ensures.pair.0 ∙ c.neighbours-before.ensures.behind) is in
    let room = room-next c.args.n c.args.line.now.entries c.args.pair.left c.args.pair.right it c.len-len.ensures.line.apart c.args.self.now c.requires.keyed
    c.join-joined.new.line.entries (c.join-joined.ensures.joined it) c.in-Some.pair next in
    omega (arith, room, c.put.ensures.room, c.put-2.ensures.room)

pub put-requires-in-Some-clause-span : goal.put-requires-in-Some-clause-span
put-requires-in-Some-clause-span g c =
    let it = c.requires.neighbours.neighbours in
    let is = c.in-Some.ensures.pair.1 in
    let next = IsNext-read c.args.n c.args.line.now.entries c.args.pair.left c.args.pair.right it c.len-len.ensures.line.apart c.args.self.now c.requires.keyed
    c.join-joined.new.line.entries (c.join-joined.ensures.joined it) c.in-Some.pair c.join-joined.ensures.line.apart
    (sym c.in-Some.ensures.pair.0 ∙ c.neighbours-before.ensures.behind) is in
    span-next c.args.n c.args.line.now.entries c.args.pair.left c.args.pair.right it c.len-len.ensures.line.apart c.args.self.now c.requires.keyed
    c.join-joined.new.line.entries (c.join-joined.ensures.joined it) c.in-Some.pair next is

pub returns-in-Some-clause-keyed : goal.returns-in-Some-clause-keyed
returns-in-Some-clause-keyed g c =
    let it = c.requires.neighbours.neighbours in
    let is = c.in-Some.ensures.pair.1 in
    let next = IsNext-read c.args.n c.args.line.now.entries c.args.pair.left c.args.pair.right it c.len-len.ensures.line.apart c.args.self.now c.requires.keyed
    c.join-joined.new.line.entries (c.join-joined.ensures.joined it) c.in-Some.pair c.join-joined.ensures.line.apart
    (sym c.in-Some.ensures.pair.0 ∙ c.neighbours-before.ensures.behind) is in
    IsKeyed-joined_next c.args.n c.args.line.now.entries c.args.pair.left c.args.pair.right it c.len-len.ensures.line.apart c.args.self.now c.requires.keyed
    c.join-joined.new.line.entries (c.join-joined.ensures.joined it) c.in-Some.pair next
    c.put.new.self c.put-2.new.self c.put-in-Some.new.self c.pair_before-previous.result c.put.ensures c.pair_before-previous.ensures.pair c.put-2.ensures is
    c.put-in-Some.ensures

pub returns-in_default-clause-keyed : goal.returns-in_default-clause-keyed
returns-in_default-clause-keyed g c =
    let it = c.requires.neighbours.neighbours in
    IsKeyed-joined_last c.args.n c.args.line.now.entries c.args.pair.left c.args.pair.right it c.len-len.ensures.line.apart c.args.self.now c.requires.keyed
    c.join-joined.new.line.entries (c.join-joined.ensures.joined it)
    c.put.new.self c.put-2.new.self c.pair_before-previous.result c.put.ensures c.pair_before-previous.ensures.pair c.put-2.ensures
    (sym c.in_default.ensures.none ∙ c.neighbours-before.ensures.behind)
