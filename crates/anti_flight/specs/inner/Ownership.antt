-- What each part of a list owns and lends, at values of the row T.
use Rattle.std.specs.Prelude.{ℕ, List, [], ◌∷◌, ◌++◌}
use base.Fraction.{full_share}
use base.Fml.{Lft, Fml, ftrue, fsep, fwand}
use mir.Syntax.{Ty, ty_ptr, ty_struct, tcons, tnil}
use mir.Raw.{raw}
use prog.Memory.{align, up}
use denote.RattleType.{RattleType}
use denote.Memory.{lone}
use denote.Sharing.{nothing, beside}
use denote.RawPtr.{Ptr, RawPtr, lies_at, room_for, ◌+ₚ◌}
use denote.Struct.Lending.{lent_at}
use Rattle.std.specs.contracts.impls.GlobalAllocator.TheImpl.{ghosts}
use Rattle.anti_flight.specs.inner.Linked.{Linked, places}

-- the right to free the heap's block at p, which does not depend on the handle to the heap
abbrev pub token : Ty → Ptr → Fml
token = ghosts.dealloc_token (record { memory = record { seal = tt } })

-- where the two pointers lie in the node at p
abbrev pub prev_of : Ptr → Ptr
prev_of p = p +ₚ 0

abbrev pub next_of : Ptr → Ptr
next_of p = p +ₚ 8

-- room for the two
abbrev pub link_room : Ptr → Fml
link_room p = fsep (room_for ty_ptr (prev_of p)) (room_for ty_ptr (next_of p))

-- a points forward to b, and b back to a
abbrev pub edge : Ptr → Ptr → Fml
edge a b = fsep (lies_at RawPtr full_share (next_of a) b) (lies_at RawPtr full_share (prev_of b) a)

-- the edges from a through the nodes at ps
abbrev pub path : Ptr → List Ptr → Fml
path a [] = ftrue
path a (p ∷ ps) = fsep (edge a p) (path p ps)

abbrev pub edge_lent : Ptr → Ptr → Lft → Fml
edge_lent a b = beside (lent_at RawPtr (next_of a) b) (lent_at RawPtr (prev_of b) a)

abbrev pub path_lent : Ptr → List Ptr → Lft → Fml
path_lent a [] = nothing
path_lent a (p ∷ ps) = beside (edge_lent a p) (path_lent p ps)

module _ (T : RattleType) where
  -- the type of `Node`, as the machine sees it
  abbrev pub node_type : Ty
  node_type = ty_struct [] (tcons ty_ptr (tcons ty_ptr (tcons (raw (lone T.mir)) tnil)))

  abbrev pub value_offset : ℕ
  value_offset = up (align (lone T.mir)) 16

  abbrev pub value_of : Ptr → Ptr
  value_of p = p +ₚ value_offset

  abbrev pub value_room : Ptr → Fml
  value_room p = room_for (raw (lone T.mir)) (value_of p)

  -- the empty fields make the whole block
  abbrev pub rejoins : Ptr → Fml
  rejoins p = fwand (fsep (link_room p) (value_room p)) (room_for node_type p)

  -- the right to give the block back: the heap's token, and that the empty fields make the block
  abbrev pub deed_owns : Ptr → Fml
  deed_owns p = fsep (token node_type p) (rejoins p)

  -- what of an empty block is no link
  abbrev pub rest_room : Ptr → Fml
  rest_room p = fsep (value_room p) (deed_owns p)

  abbrev pub room_owns : Ptr → Fml
  room_owns p = fsep (link_room p) (rest_room p)

  -- what of a node is no link
  abbrev pub item_owns : Ptr → T.Denot → Fml
  item_owns p x = fsep (lies_at T full_share (value_of p) x) (deed_owns p)

  abbrev pub detached_owns : Ptr → T.Denot → Fml
  detached_owns p x = fsep (link_room p) (item_owns p x)

  abbrev pub items_own : List (Linked T.Denot) → Fml
  items_own [] = ftrue
  items_own (n ∷ ns) = fsep (item_owns n.place n.value) (items_own ns)

  -- what of the two ends is in no edge
  abbrev pub ends_own : Ptr → Ptr → Fml
  ends_own head tail = fsep (fsep (room_for ty_ptr (prev_of head)) (rest_room head)) (fsep (room_for ty_ptr (next_of tail)) (rest_room tail))

  abbrev pub chain_owns : Ptr → List (Linked T.Denot) → Ptr → Fml
  chain_owns head ns tail = fsep (path head (places ns ++ tail ∷ [])) (fsep (items_own ns) (ends_own head tail))

  abbrev pub item_lent : Linked T.Denot → Lft → Fml
  item_lent n = lent_at T (value_of n.place) n.value

  abbrev pub items_lent : List (Linked T.Denot) → Lft → Fml
  items_lent [] = nothing
  items_lent (n ∷ ns) = beside (item_lent n) (items_lent ns)

  abbrev pub chain_lent : Ptr → List (Linked T.Denot) → Ptr → Lft → Fml
  chain_lent head ns tail = beside (path_lent head (places ns ++ tail ∷ [])) (items_lent ns)
