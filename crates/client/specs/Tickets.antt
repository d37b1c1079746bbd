-- Tickets: what their calls answer, and when a ticket is good.
use Rattle.std.specs.Prelude.{◌≡◌, ℕ, ◌<◌, false, cond, ◌⊎◌, List, Some, None, Ok, Err, Option, Result, ◌==◌}
use Rattle.catalogue.specs.declared.refusal.Refusal.{Refusal}
use Rattle.catalogue.specs.declared.row.Row.{Row}
use Rattle.catalogue.specs.Refusals.{number}
use Rattle.sequencing.specs.declared.mode.Mode.{Mode}
use Rattle.sequencing.specs.declared.call.Call.{Call}
use Rattle.versioning.specs.declared.request.Request.{Request}
use Rattle.versioning.specs.Words.{ended}
use Rattle.versioning.specs.Machine.{State, course, begin_reply, abort_reply, after}
use Rattle.client.specs.declared.ticket.Ticket.{Ticket}
use Rattle.client.specs.declared.ticket.NotBegun.{NotBegun}
use Rattle.client.specs.declared.ticket.NotAborted.{NotAborted}

-- What a begin tells: 0 and the transaction that the ticket is for, or the refusal's number and the declaration handed back.
abbrev pub begin_told : Result Ticket NotBegun → ℕ × Option ℕ × Option (List Mode)
begin_told (Ok t) = (0, Some t.number, None)
begin_told (Err e) = (number e.refusal, None, Some e.declaration.modes)

-- It is the machine's begin; a refused one hands the declaration back.
abbrev pub ticket_reply : State → List Mode → ℕ × Option ℕ × Option (List Mode)
ticket_reply s modes =
    ((begin_reply s modes).0, (begin_reply s modes).1, cond ((begin_reply s modes).0 == 0) None (Some modes))

-- What an abort tells: the refusal's number, and the transaction of the ticket where it is handed back.
abbrev pub abort_told : Result (Unit {0}) NotAborted → ℕ × Option ℕ
abort_told (Ok x) = (0, None)
abort_told (Err (NotAborted.PastRecall t)) = (number Refusal.PastRecall, Some t.number)
abort_told (Err (NotAborted.Refused r)) = (number r, None)

-- It is the machine's abort; only where the transaction is past recall is the ticket handed back.
abbrev pub spent_reply : State → ℕ → ℕ × Option ℕ
spent_reply s k =
    ((abort_reply s k).0, cond ((abort_reply s k).0 == number Refusal.PastRecall) (Some k) None)

-- A ticket for the transaction k is good in a state: k has begun there and is open.
pub record Good (s : State) (k : ℕ) : Type 0 where
  pub begun : k < s.counts.begun
  pub still_open : ended (course s k).asked ≡ false

-- A refusal that a good ticket can meet: neither that the transaction is unknown, nor that it is no longer open.
pub record CanMeet (refusal : ℕ) : Type 0 where
  pub known : refusal ≡ number Refusal.UnknownTransaction → ⊥
  pub still_open : refusal ≡ number Refusal.NotOpen → ⊥

-- An abort that was accepted, or refused as past recall.
abbrev pub DoneOrPastRecall : ℕ → Type 0
DoneOrPastRecall refusal = (refusal ≡ 0) ⊎ (refusal ≡ number Refusal.PastRecall)

-- A request that ends the transaction k, by its number.
abbrev pub Ends : {V K : Type 0} → ℕ → Request V K → Type 0
Ends k (Request.Call (Call.Begin modes)) = ⊥
Ends k (Request.Call (Call.Write m t r v c)) = ⊥
Ends k (Request.Call (Call.Read m t r)) = ⊥
Ends k (Request.Call (Call.Release m t)) = ⊥
Ends k (Request.Call (Call.Commit m)) = m ≡ k
Ends k (Request.Call (Call.Abort m)) = m ≡ k
Ends k (Request.Call (Call.Step m j)) = ⊥
Ends k (Request.WriteAs m t r v c) = ⊥
Ends k (Request.ReadAs m t r kind) = ⊥

-- A good ticket stays good under every request, in whatever state, but one that ends its own transaction.
abbrev pub StaysGood : {V K : Type 0} → (V → Row) → (K → Row → Option V) → Type 0
StaysGood {V} {K} pack unpack =
    (s : State) (k : ℕ) (q : Request V K) → Good s k → (Ends k q → ⊥) → Good (after pack unpack s q) k
