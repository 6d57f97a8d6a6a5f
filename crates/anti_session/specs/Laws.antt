-- How the members of a span go on into the spans of its servers.
use Rattle.std.specs.Prelude.{ℕ, ◌≡◌, List, flat_map}
use Rattle.anti_kind.specs.declared.actor.Birth.{Birth}
use Rattle.anti_kind.specs.declared.entry.Entry.{Entry}
use Rattle.anti_session.specs.Members.{adds_at, members, span_places}

-- The members of a span are what its entries add, with the members of the first spans of their servers.
abbrev pub MembersUnfold : List Entry → Type 0
MembersUnfold trace =
    (birth : Birth) (span : ℕ)
    → members trace birth span ≡ flat_map (adds_at (λ b. members trace b 1) trace birth span) (span_places trace birth span)
