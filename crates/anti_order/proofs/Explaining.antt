-- Orders that are answered explain their reads.
use Rattle.std.proofs.Common.{List}
use Rattle.anti_kind.specs.declared.entry.Entry.{Entry}
use Rattle.anti_app.specs.declared.app.App.{App}
use Rattle.law_causal.specs.Carried.{IsLossless}
use Rattle.law_serial.specs.Order.{order_of}
use Rattle.law_serial.specs.Chains.{OrdersAreSerial}
use Rattle.anti_order.specs.Chains.{ChainsAreExplained}
use Rattle.anti_order.specs.declared.answer.OrderAnswer.TheVariants.{Lossy, Unguarded, Order}

pub chains_are_explained : (app : App) (trace : List Entry) → (IsLossless app trace → OrdersAreSerial app trace) → ChainsAreExplained app trace
chains_are_explained app trace serial rs chain (Lossy mark) is = tt
chains_are_explained app trace serial rs chain (Unguarded mark) is = tt
chains_are_explained app trace serial rs chain (Order marks) is =
    record { order = order_of app trace rs; marked = is.2; serial = serial is.0 rs is.1 chain }
