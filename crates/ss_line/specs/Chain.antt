-- The nodes of a line: what is read at a place, and what each change leaves.
use Rattle.std.specs.Prelude.{◌≡◌, ◌≢◌, ◌+◌, ◌<◌, ◌≤◌, length, slice_get, vec_capacity, [], Option, Some, None}
use Rattle.std.specs.Option.{option_and_then, MatchOption}
use Rattle.ss_line.specs.declared.entry.At.{At}
use Rattle.ss_line.specs.declared.entry.Entry.{Entry}
use Rattle.ss_line.specs.declared.chain.Chain.{Chain}

-- no place was given yet
pub record HasNoPlace (chain : Chain) : Type 0 where
  pub nodes : chain.nodes.items ≡ []
  pub first : chain.first ≡ None
  pub last : chain.last ≡ None
  pub free : chain.free ≡ None

-- the place has a node
abbrev pub HasNode : Chain → At → Type 0
HasNode chain at = at.0 < length chain.nodes.items

-- the entry that is kept at a place
abbrev pub node_entry : Chain → At → Option Entry
node_entry chain at = option_and_then (λ node. Some node.entry) (slice_get chain.nodes.items at.0)

-- the place behind a place, or that at the front
abbrev pub behind_in : Chain → Option At → Option At
behind_in chain None = chain.first
behind_in chain (Some at) = option_and_then (λ node. node.behind) (slice_get chain.nodes.items at.0)

-- the place before a place, or that at the end
abbrev pub before_in : Chain → Option At → Option At
before_in chain None = chain.last
before_in chain (Some at) = option_and_then (λ node. node.before) (slice_get chain.nodes.items at.0)

-- there are as many nodes, with as much room
pub record KeepsSize (old new : Chain) : Type 0 where
  pub nodes : length new.nodes.items ≡ length old.nodes.items
  pub capacity : vec_capacity new.nodes ≡ vec_capacity old.nodes

-- only what is behind one place changes
pub record LinksBehind (old : Chain) (at behind : Option At) (new : Chain) : Type 0 where
  pub there : behind_in new at ≡ behind
  pub others : (other : Option At) → other ≢ at → behind_in new other ≡ behind_in old other
  pub before : (other : Option At) → before_in new other ≡ before_in old other
  pub entries : (other : At) → node_entry new other ≡ node_entry old other
  pub free : new.free ≡ old.free
  pub size : KeepsSize old new

-- only what is before one place changes
pub record LinksBefore (old : Chain) (at before : Option At) (new : Chain) : Type 0 where
  pub there : before_in new at ≡ before
  pub others : (other : Option At) → other ≢ at → before_in new other ≡ before_in old other
  pub behind : (other : Option At) → behind_in new other ≡ behind_in old other
  pub entries : (other : At) → node_entry new other ≡ node_entry old other
  pub free : new.free ≡ old.free
  pub size : KeepsSize old new

-- the two places are neighbours, and all else stays
pub record Links (old : Chain) (before behind : Option At) (new : Chain) : Type 0 where
  pub behind_there : behind_in new before ≡ behind
  pub before_there : before_in new behind ≡ before
  pub behind_others : (other : Option At) → other ≢ before → behind_in new other ≡ behind_in old other
  pub before_others : (other : Option At) → other ≢ behind → before_in new other ≡ before_in old other
  pub entries : (other : At) → node_entry new other ≡ node_entry old other
  pub free : new.free ≡ old.free
  pub size : KeepsSize old new

-- the entry is kept at the place that was the next free one, or at a new one, and all other places stay
pub record TakesPlace (old : Chain) (entry : Entry) (at : At) (new : Chain) : Type 0 where
  pub there : node_entry new at ≡ Some entry
  pub entries : (other : At) → other ≢ at → node_entry new other ≡ node_entry old other
  pub behind : (other : Option At) → other ≢ Some at → behind_in new other ≡ behind_in old other
  pub before : (other : Option At) → other ≢ Some at → before_in new other ≡ before_in old other
  pub place : MatchOption old.free (at.0 ≡ length old.nodes.items) (λ free. at ≡ free)
  pub free : MatchOption old.free (new.free ≡ None) (λ free. new.free ≡ behind_in old (Some free))
  pub nodes : MatchOption old.free (length new.nodes.items ≡ length old.nodes.items + 1) (λ free. length new.nodes.items ≡ length old.nodes.items)
  pub capacity : vec_capacity old.nodes ≤ vec_capacity new.nodes

-- the place is the next free one, and behind it come those that were free
pub record GivesBack (old : Chain) (at : At) (new : Chain) : Type 0 where
  pub there : behind_in new (Some at) ≡ old.free
  pub behind : (other : Option At) → other ≢ Some at → behind_in new other ≡ behind_in old other
  pub before : (other : Option At) → before_in new other ≡ before_in old other
  pub entries : (other : At) → node_entry new other ≡ node_entry old other
  pub free : new.free ≡ Some at
  pub size : KeepsSize old new

-- the entry is kept at the place, and all else stays
pub record WritesEntry (old : Chain) (at : At) (entry : Entry) (new : Chain) : Type 0 where
  pub there : node_entry new at ≡ Some entry
  pub entries : (other : At) → other ≢ at → node_entry new other ≡ node_entry old other
  pub behind : (other : Option At) → behind_in new other ≡ behind_in old other
  pub before : (other : Option At) → before_in new other ≡ before_in old other
  pub free : new.free ≡ old.free
  pub size : KeepsSize old new
