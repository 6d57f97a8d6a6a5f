-- Traces in which every read is settled, and every span has an order that explains it.
use Rattle.std.specs.Prelude.{ℕ, ◌≡◌, true, List, Some, slice_get}
use Rattle.anti_kind.specs.declared.actor.Birth.{Birth}
use Rattle.anti_kind.specs.declared.entry.Entry.{Entry}
use Rattle.anti_app.specs.declared.app.App.{App}
use Rattle.law_causal.specs.Words.{reads}
use Rattle.law_causal.specs.Reads.{reads_of}
use Rattle.law_causal.specs.Settled.{IsSettled}
use Rattle.law_serial.specs.Order.{order_of}
use Rattle.law_serial.specs.Serial.{IsSerial}

abbrev pub AllSettled : App → List Entry → Type 0
AllSettled app trace = (j : ℕ) (e : Entry) → slice_get trace j ≡ Some e → reads e.call ≡ true → IsSettled app trace j e

-- the order of each span's reads has all writes and these reads once each, respects the causal order, and explains the reads
abbrev pub AllExplained : App → List Entry → Type 0
AllExplained app trace =
    (birth : Birth) (span : ℕ) → IsSerial trace (reads_of trace birth span) (order_of app trace (reads_of trace birth span))
