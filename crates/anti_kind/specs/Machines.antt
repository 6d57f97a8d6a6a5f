-- The histories for which a machine stands.
use Rattle.std.specs.Prelude.{List, ◌≡◌, true}
use Rattle.anti_kind.specs.declared.entry.Entry.{Entry}
use Rattle.anti_kind.specs.Objects.{Start, IsLegal, ready, due, fits}
use Rattle.anti_kind.specs.Starts.{IsStart}
use Rattle.anti_kind.specs.declared.call.Call.{Call}
use Rattle.anti_kind.specs.declared.call.Reply.{Reply}

-- h is a legal history of a sound start, for which a machine stands
pub record StandsFor (start : Start) (stands : List Entry → Type 0) (h : List Entry) : Type 0 where
  pub sane : IsStart start
  pub legal : IsLegal start h
  pub state : stands h

-- some history for which the machine stands has the call ready, and it fits
pub record MayMake (start : Start) (stands : List Entry → Type 0) (c : Call) : Type 0 where
  pub history : List Entry
  pub stands_for : StandsFor start stands history
  pub is_ready : ready start history c ≡ true
  pub fits : fits start history c ≡ true

-- and the reply is the one that it is due there
pub record MayApply (start : Start) (stands : List Entry → Type 0) (c : Call) (reply : Reply) : Type 0 where
  pub may : MayMake start stands c
  pub is_due : reply ≡ due start may.history c
