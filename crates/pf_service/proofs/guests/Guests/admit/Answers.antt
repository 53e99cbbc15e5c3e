-- The room of the place's number is filled, with the place, or was filled before.
use Rattle.std.proofs.Common.{◌≡◌, ◌<◌, ◌∙◌, ℕ, List, Some, length, get_or, refl, sym, ap, subst, arith}
use Rattle.std.specs.Prelude.{option_map}
use Rattle.std.specs.Sync.OnceLock.{Named}
use Rattle.std.proofs.lemmas.Option.{slice_get_read}
use Rattle.std.proofs.lemmas.Result.{MatchResult-weaker}
use Rattle.pf_service.specs.Lodged.{IsOfRoom}
use Rattle.pf_service.proofs.guests.Guests.admit.Goals as goal

of_room : (rooms : List Named) (ns at of : ℕ) (room : Named) → at ≡ ns → ns < length rooms
    → room ≡ get_or rooms at room → of ≡ room.id → IsOfRoom rooms ns of
of_room rooms ns at of room same within is named =
    let here : room ≡ get_or rooms ns room = subst (λ (n : ℕ). room ≡ get_or rooms n room) same is in
    ap (option_map (λ (r : Named). r.id)) (slice_get_read rooms (length rooms) ns room refl within here)
    ∙ ap Some (sym named)

pub returns-clause-lodged : goal.returns-clause-lodged
returns-clause-lodged g c =
    let within : c.args.place.ns < length c.args.self.now.rooms.items = omega (arith, c.requires, c.args.self.now.all) in
    MatchResult-weaker c.try_insert.result c.try_insert.ensures.ok
    (λ t p. (
      of_room _ _ _ _ c.index.result.now c.ns-ns.ensures within c.index.ensures p.0,
      ap (option_map (λ q. q.ns)) (ap (λ b. b.value) p.1 ∙ c.replace.ensures.after),
    )) (λ e q. q)

pub returns-clause-taken : goal.returns-clause-taken
returns-clause-taken g c =
    let within : c.args.place.ns < length c.args.self.now.rooms.items = omega (arith, c.requires, c.args.self.now.all) in
    MatchResult-weaker c.try_insert.result c.try_insert.ensures.err (λ t p. p)
    (λ e q. (
      of_room _ _ _ _ c.index.result.now c.ns-ns.ensures within c.index.ensures q.0,
      ap (λ b. b.value) q.1 ∙ c.replace.ensures.after,
    ))
