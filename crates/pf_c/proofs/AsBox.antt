-- An open place and its parts own what a box at the same types owns.
use mir.Syntax.{impl, tnil, dnil}
use mir.Val.{Val}
use mathlib.Core.List.{List, [], ◌∷◌}
use seplogic.Ra.Ura.{Ura}
use base.Logic.{ent, id⊢}
use types.Logic.{Logic, sem}
use types.Kit.{‵, ◌$◌, ◌∵◌, !, qed, done, move, use1, fsplit, fjoin}
use denote.RawPtr.{Ptr, block_ptr, null_ptr}
use denote.Signature.{Slot, plain}
use Rattle.std_alloc.proofs.BoxSteps.Form.{Bx, B, D}
use Rattle.std_heap.specs.contracts.Global as Heap
use Rattle.std_heap.specs.contracts.GlobalAllocator.TheImpl.{ghosts, dict}
use Rattle.std_heap.proofs.Global.TheLaws as heap
use Rattle.std.specs.Global.{Global}
use Rattle.pf_hub.specs.contracts.hub.Hub as Hub
use Rattle.pf_hub.proofs.hub.Hub.TheLaws as hub
use Rattle.pf_hub.specs.Opening.{new_hub}
use Rattle.pf_c.specs.Kept.{owned, kept, IsOpen}
use Rattle.pf_c.specs.Rows.{Held}
use Rattle.pf_c.specs.contracts.parts.Parts as Parts
use Rattle.pf_c.specs.contracts.place.Place as Handle

abbrev pub E : Bx
E = record { row = Hub.the_row Heap.the_row ghosts; laws = hub.the_row_laws Heap.the_row ghosts heap.the_row_laws; al = record { row = Heap.the_row; laws = heap.the_row_laws; g = ghosts; d = dict; drops = impl [] tnil dnil } }

abbrev pub FromParts : Slot 0
FromParts = plain (λ _. Parts.the_row (Hub.the_row Heap.the_row ghosts) Heap.the_row ghosts)

abbrev pub FromHandle : Slot 0
FromHandle = plain (λ _. Handle.the_row)

-- the place as a box, where it is open
abbrev pub boxed : Handle.the_row.Denot → D E
boxed h = record { ptr = h.at; alloc = h.alloc; value = h.held }

module _ {M : Type 1} {𝓤 : Ura M} (𝓛 : Logic 𝓤) where
  of_kept : (a : Global) (p : Ptr) (x : Held) → IsOpen p → ent 𝓤 (sem 𝓛 (kept a p x)) (sem 𝓛 (owned a p x))
  of_kept a (block_ptr b o) x t = id⊢ 𝓤 _
  of_kept a null_ptr x t = absurd t

  to_kept : (a : Global) (p : Ptr) (x : Held) → IsOpen p → ent 𝓤 (sem 𝓛 (owned a p x)) (sem 𝓛 (kept a p x))
  to_kept a (block_ptr b o) x t = id⊢ 𝓤 _
  to_kept a null_ptr x t = absurd t

  pub to_box : (h : Handle.the_row.Denot) (us : List Val) → IsOpen h.at → ent 𝓤 (sem 𝓛 (Handle.the_row.own_val h us)) (sem 𝓛 ((B E).own_val (boxed h) us))
  to_box h us t =
      qed 𝓛 (‵ (Handle.the_row.own_val h us) ∷ []) ∵ fsplit ! $ move ! (1 ∷ []) $ use1 𝓛 (‵ (owned h.alloc h.at h.held)) (of_kept h.alloc h.at h.held t) $
      move ! (1 ∷ []) $ fjoin ! $ done !

  pub of_box : (h : Handle.the_row.Denot) (us : List Val) → IsOpen h.at → ent 𝓤 (sem 𝓛 ((B E).own_val (boxed h) us)) (sem 𝓛 (Handle.the_row.own_val h us))
  of_box h us t =
      qed 𝓛 (‵ ((B E).own_val (boxed h) us) ∷ []) ∵ fsplit ! $ move ! (1 ∷ []) $ use1 𝓛 (‵ (kept h.alloc h.at h.held)) (to_kept h.alloc h.at h.held t) $
      move ! (1 ∷ []) $ fjoin ! $ done !

-- what stands at a shut place, so to say: nothing relates it to memory
abbrev pub any_held : Held
any_held = record { world = new_hub [] 0; allocators = [] }
