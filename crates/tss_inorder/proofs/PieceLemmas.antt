-- An event of main leads to the same whatever pieces its output was printed in.
use Rattle.std.proofs.Common.{◌≡◌, ℕ, zero, suc, ◌+◌, Bool, true, false, List, [], ◌∷◌, ◌++◌, length, Option, Some, None, Result, Ok, Err, refl, sym, ap, ◌∙◌, append-nil, append_assoc}
use Rattle.std.specs.Prelude.{◌==◌, nat_lt, is_none, is_some, cond}
use Rattle.tss_base.specs.declared.range.Range.{Range}
use Rattle.tss_base.specs.declared.operand.Task.{Task}
use Rattle.tss_base.specs.declared.ending.Trap.{Trap}
use Rattle.tss_base.specs.declared.machine.Limits.{Limits}
use Rattle.tss_base.specs.Image.{SegmentState}
use Rattle.tss_base.specs.declared.causes.TheConstants.{LOAD_DENIED}
use Rattle.tss_base.specs.declared.refusals.TheConstants.{MAIN_TOUCH, OUTPUT_FULL}
use Rattle.tss_model.specs.Memory.{Memory, range_of, bytes_of}
use Rattle.tss_model.specs.Registers.{trap_of}
use Rattle.tss_model.specs.Access.{touches}
use Rattle.tss_model.specs.Spawn.{spawn_of}
use Rattle.tss_model.specs.TaskRun.{repeated, task_end}
use Rattle.tss_model.specs.Core.{Stepped, Executed, Called, Ended, Trapped, Touched}
use Rattle.tss_model.specs.MainStep.{Piece, MainState, Flat, Call, ExitCall, Spawn, Barrier, Print, Await, Unknown, output_of, has_spent, main_refused, main_trapped, main_on, main_core, main_step, main_stretch, next_call, call_done, spawn_call, spawn_on, print_range, print_done, print_call, main_call, await_on, awaited_object}
use Rattle.tss_model.specs.InOrder.{main_after_task, call_ran}
use Rattle.tss_program_order.proofs.FlatMain.{main_stretch-leaves}
use Rattle.tss_inorder.specs.Flats.{event_by, flat_event}
use Rattle.tss_inorder.specs.Order.{with_pieces}

-- what was printed with one piece more
pub output_of-more : (pieces : List Piece) (p : Piece) → output_of (pieces ++ p ∷ []) ≡ output_of pieces ++ p.bytes
output_of-more [] p = append-nil p.bytes
output_of-more (x ∷ xs) p = ap (λ (ys : List ℕ). x.bytes ++ ys) (output_of-more xs p) ∙ sym (append_assoc x.bytes (output_of xs) p.bytes)

-- one is the other, but that what it printed is in other pieces
pub record IsAlike (f g : Flat) : Type 0 where
  pub pieces : List Piece
  pub output : output_of pieces ≡ output_of g.main.pieces
  pub form : f ≡ with_pieces g pieces

-- ---- a step that is no call

cond-pieces : (pieces : List Piece) (b : Bool) (f g x y : Flat) → x ≡ with_pieces f pieces → y ≡ with_pieces g pieces → cond b x y ≡ with_pieces (cond b f g) pieces
cond-pieces pieces true f g x y p q = p
cond-pieces pieces false f g x y p q = q

module _ (code : List SegmentState) (limits : Limits) (pieces : List Piece) where
  main_on-pieces : (f : Flat) (x : Stepped) → main_on (with_pieces f pieces) x ≡ with_pieces (main_on f x) pieces
  main_on-pieces f (Executed r w) = refl
  main_on-pieces f Called = refl
  main_on-pieces f Ended = refl
  main_on-pieces f (Trapped t) = refl
  main_on-pieces f Touched = refl

  main_step-pieces : (f : Flat) → main_step code limits (with_pieces f pieces) ≡ with_pieces (main_step code limits f) pieces
  unfolding main_step
  main_step-pieces f =
      cond-pieces pieces (is_some f.main.ending) f _ _ _ refl
      (cond-pieces pieces (has_spent limits f.main) _ _ _ _ refl (main_on-pieces f (main_core code f)))

  main_stretch-pieces : (n : ℕ) (f : Flat) → main_stretch code limits n (with_pieces f pieces) ≡ with_pieces (main_stretch code limits n f) pieces
  unfolding repeated
  main_stretch-pieces zero f = refl
  main_stretch-pieces (suc n) f = ap (repeated (main_step code limits) n) (main_step-pieces f) ∙ main_stretch-pieces n (main_step code limits f)

-- ---- a call

abbrev pub main_with : MainState → List Piece → MainState
main_with m pieces = record m { pieces = pieces }

-- the same of main after a call, with the task that it spawns
record IsCallAlike (p q : MainState × Option Task) : Type 0 where
  pub pieces : List Piece
  pub output : output_of pieces ≡ output_of (q.0).pieces
  pub form : p ≡ (main_with q.0 pieces, q.1)

module _ (limits : Limits) (memory : Memory) (m : MainState) (pieces : List Piece) (same : output_of pieces ≡ output_of m.pieces) where
  spawn-pieces : (r : Result Task ℕ) → IsCallAlike (spawn_on (main_with m pieces) r) (spawn_on m r)
  spawn-pieces (Ok t) = record { pieces = pieces; output = same; form = refl }
  spawn-pieces (Err n) = record { pieces = pieces; output = same; form = refl }

  await-pieces : (o : Option Range) → IsCallAlike (await_on (main_with m pieces) o, None) (await_on m o, None)
  await-pieces None = record { pieces = pieces; output = same; form = refl }
  await-pieces (Some object) = record { pieces = pieces; output = same; form = refl }

  -- a print by what its checks say
  abbrev printed : Bool → Bool → Bool → Bool → MainState → Range → MainState
  printed none unplaced touched full n r =
      cond none (call_done n)
      (cond unplaced (main_trapped n (trap_of n.registers LOAD_DENIED r.base))
      (cond touched (main_refused n MAIN_TOUCH)
      (cond full (main_refused n OUTPUT_FULL) (print_done n (bytes_of memory r)))))

  printed-pieces : (none unplaced touched full : Bool) (r : Range)
      → IsCallAlike (printed none unplaced touched full (main_with m pieces) r, None) (printed none unplaced touched full m r, None)
  printed-pieces true unplaced touched full r = record { pieces = pieces; output = same; form = refl }
  printed-pieces false true touched full r = record { pieces = pieces; output = same; form = refl }
  printed-pieces false false true full r = record { pieces = pieces; output = same; form = refl }
  printed-pieces false false false true r = record { pieces = pieces; output = same; form = refl }
  printed-pieces false false false false r =
      let piece : Piece = record { before = m.spawned; bytes = bytes_of memory r } in
      record {
        pieces = pieces ++ piece ∷ [];
        output = output_of-more pieces piece ∙ ap (λ (xs : List ℕ). xs ++ piece.bytes) same ∙ sym (output_of-more m.pieces piece);
        form = refl;
      }

  print-pieces : (r : Range) → IsCallAlike (print_call limits memory (main_with m pieces) r, None) (print_call limits memory m r, None)
  print-pieces r =
      let full = nat_lt limits.output_bytes (length (output_of m.pieces) + r.len) in
      let by = printed-pieces (r.len == 0) (is_none (range_of memory.ranges r)) (touches m.epoch r) full r in
      record {
        pieces = by.pieces;
        output = by.output;
        form =
            ap (λ (xs : List ℕ). (printed (r.len == 0) (is_none (range_of memory.ranges r)) (touches m.epoch r) (nat_lt limits.output_bytes (length xs + r.len)) (main_with m pieces) r, None)) same
            ∙ by.form;
      }

  main_call-pieces : (c : Call) → IsCallAlike (main_call limits memory (main_with m pieces) c) (main_call limits memory m c)
  main_call-pieces ExitCall = record { pieces = pieces; output = same; form = refl }
  main_call-pieces Spawn = spawn-pieces (spawn_of (spawn_call m.registers) memory m.epoch limits m.spawned)
  main_call-pieces Barrier = record { pieces = pieces; output = same; form = refl }
  main_call-pieces Print = print-pieces (print_range m.registers)
  main_call-pieces Await = await-pieces (awaited_object m)
  main_call-pieces (Unknown n) = record { pieces = pieces; output = same; form = refl }

-- its task runs
module _ (code : List SegmentState) (limits : Limits) (memory : Memory) where
  task_ran-pieces : (m : MainState) (pieces : List Piece) → output_of pieces ≡ output_of m.pieces → (t : Task) (left : Memory) (trap : Option Trap)
      → IsAlike (record { main = main_after_task (main_with m pieces) t trap; memory = left }) (record { main = main_after_task m t trap; memory = left })
  task_ran-pieces m pieces same t left None = record { pieces = pieces; output = same; form = refl }
  task_ran-pieces m pieces same t left (Some trap) = record { pieces = pieces; output = same; form = refl }

  call_ran-pieces : (q : MainState × Option Task) (pieces : List Piece) → output_of pieces ≡ output_of (q.0).pieces
      → IsAlike (call_ran code limits memory (main_with q.0 pieces, q.1)) (call_ran code limits memory q)
  call_ran-pieces (m, None) pieces same = record { pieces = pieces; output = same; form = refl }
  call_ran-pieces (m, Some t) pieces same =
      let end = task_end code limits memory t in task_ran-pieces m pieces same t end.memory end.trap

-- ---- an event

module _ (code : List SegmentState) (limits : Limits) (quantum : ℕ) (f : Flat) (pieces : List Piece) (same : output_of pieces ≡ output_of f.main.pieces) where
  event_by-pieces : (c : Option Call) → IsAlike (event_by code limits quantum (with_pieces f pieces) c) (event_by code limits quantum f c)
  event_by-pieces None = record {
    pieces = pieces;
    output = same ∙ ap output_of (sym (main_stretch-leaves code limits quantum f).pieces);
    form = main_stretch-pieces code limits pieces quantum f;
  }
  event_by-pieces (Some c) =
      let called = main_call-pieces limits f.memory f.main pieces same c in
      let ran = call_ran-pieces code limits f.memory (main_call limits f.memory f.main c) called.pieces called.output in
      record { pieces = ran.pieces; output = ran.output; form = ap (call_ran code limits f.memory) called.form ∙ ran.form }

  pub flat_event-pieces : IsAlike (flat_event code limits quantum (with_pieces f pieces)) (flat_event code limits quantum f)
  flat_event-pieces = event_by-pieces (next_call code limits f)
