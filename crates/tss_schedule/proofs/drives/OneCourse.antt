-- A schedule comes to one judgement alone, and what it has done before is the beginning of that.
use Rattle.std.proofs.Common.{◌≡◌, ℕ, ◌+◌, true, false, cond, List, [], ◌∷◌, ◌++◌, length, Option, Some, None, refl, sym, ap, ◌∙◌, subst}
use Rattle.tss_base.specs.declared.event.Event.{Event}
use Rattle.tss_protocol.specs.UnitMachine.{is_enabled}
use Rattle.tss_protocol.specs.Result.{is_finished}
use Rattle.tss_protocol.specs.Schedule.{LogFault, BadLine, NotEnabled, Short, Long, Judgement}
use Rattle.tss_pipeline.specs.Seen.{PipelineState}
use Rattle.tss_schedule.specs.declared.schedule.Pick.{Pick}
use Rattle.tss_schedule.specs.declared.schedule.Pick.TheVariants as pick
use Rattle.tss_schedule.specs.Picks.{Meaning, Driven, MayBeDone, picked, Does, DoesAll, after_pick, after_picks, EndsBy, Comes}

-- ---- one pick

false_true : false ≡ true → ⊥
false_true e = cc

bad_end : pick.Bad ≡ pick.End → ⊥
bad_end e = cc

do_end : (e : Event) → pick.Do e ≡ pick.End → ⊥
do_end e h = cc

do_bad : (e : Event) → pick.Do e ≡ pick.Bad → ⊥
do_bad e h = cc

do_same : (e d : Event) → pick.Do e ≡ pick.Do d → e ≡ d
do_same e d h = cc

-- how a pick ends, by the tests
end_if : PipelineState → ℕ → Pick → Option (Option LogFault)
end_if p n pick.Bad = Some (Some (BadLine n))
end_if p n pick.End = cond (is_finished p.state) (Some None) (Some (Some (Short n)))
end_if p n (pick.Do e) =
    cond (is_finished p.state) (Some (Some (Long n))) (cond (is_enabled p.machine p.state e) None (Some (Some (NotEnabled n))))

ends_if : (p : PipelineState) (n : ℕ) (c : Pick) (end : Option LogFault) → EndsBy p n c end → end_if p n c ≡ Some end
unfolding end_if
ends_if p n c None h =
    ap (end_if p n) h.0 ∙ ap (λ b. cond b (Some None) (Some (Some (Short n)))) h.1
ends_if p n c (Some (BadLine k)) h = ap (end_if p n) h.1 ∙ ap (λ n. Some (Some (BadLine n))) (sym h.0)
ends_if p n c (Some (NotEnabled k)) h =
    ap (end_if p n) h.2
    ∙ ap (λ b. cond b (Some (Some (Long n))) (cond (is_enabled p.machine p.state h.1) None (Some (Some (NotEnabled n))))) h.3
    ∙ ap (λ b. cond b None (Some (Some (NotEnabled n)))) h.4
    ∙ ap (λ n. Some (Some (NotEnabled n))) (sym h.0)
ends_if p n c (Some (Short k)) h =
    ap (end_if p n) h.1
    ∙ ap (λ b. cond b (Some None) (Some (Some (Short n)))) h.2
    ∙ ap (λ n. Some (Some (Short n))) (sym h.0)
ends_if p n c (Some (Long k)) h =
    ap (end_if p n) h.2
    ∙ ap (λ b. cond b (Some (Some (Long n))) (cond (is_enabled p.machine p.state h.1) None (Some (Some (NotEnabled n))))) h.3
    ∙ ap (λ n. Some (Some (Long n))) (sym h.0)

-- an event that may be done ends nothing
goes_if : (p : PipelineState) (n : ℕ) (e : Event) → MayBeDone p e → end_if p n (pick.Do e) ≡ None
unfolding end_if
goes_if p n e may =
    ap (λ b. cond b (Some (Some (Long n))) (cond (is_enabled p.machine p.state e) None (Some (Some (NotEnabled n))))) may.unfinished
    ∙ ap (λ b. cond b None (Some (Some (NotEnabled n)))) may.enabled

no_end : (end : Option LogFault) → None ≡ Some end → ⊥
no_end end e = cc

same_end : (a b : Option LogFault) → Some a ≡ Some b → a ≡ b
same_end a b e = cc

-- ---- one after another

module _ {X : Type 0} (f : Meaning X) where
  -- a pick that does an event ends nothing
  not_both : (d : Driven X) (e : Event) (n : ℕ) (end : Option LogFault) → Does f d e
      → EndsBy d.pipeline n (picked f d) end → ⊥
  not_both d e n end does ends =
      no_end end (sym (goes_if d.pipeline n e does.may) ∙ ap (end_if d.pipeline n) (sym does.picked)
      ∙ ends_if d.pipeline n (picked f d) end ends)

  -- what was done is the beginning of all that the schedule does
  pub done_before : (d : Driven X) (es fs : List Event) (n : ℕ) (end : Option LogFault) → DoesAll f d es → DoesAll f d fs
      → EndsBy (after_picks f d fs).pipeline n (picked f (after_picks f d fs)) end
      → (rest : List Event) × (fs ≡ es ++ rest)
  unfolding DoesAll after_picks
  done_before d [] fs n end done all ends = (fs, refl)
  done_before d (e ∷ es) [] n end done all ends = absurd (not_both d e n end done.0 ends)
  done_before d (e ∷ es) (x ∷ fs) n end done all ends =
      let same = do_same e x (sym done.0.picked ∙ all.0.picked) in
      let rest = subst (λ e. DoesAll f (after_pick f d e) es) same done.1 in
      let k = done_before (after_pick f d x) es fs n end rest all.1 ends in
      (k.0, ap (λ xs. x ∷ xs) k.1 ∙ ap (λ e. e ∷ es ++ k.0) (sym same))

  -- and all of it where the next pick ends it
  done_whole : (d : Driven X) (es fs : List Event) (n k : ℕ) (a b : Option LogFault) → DoesAll f d es → DoesAll f d fs
      → EndsBy (after_picks f d es).pipeline n (picked f (after_picks f d es)) a
      → EndsBy (after_picks f d fs).pipeline k (picked f (after_picks f d fs)) b
      → es ≡ fs
  unfolding DoesAll after_picks
  done_whole d [] [] n k a b done all ends end = refl
  done_whole d [] (x ∷ fs) n k a b done all ends end = absurd (not_both d x n a all.0 ends)
  done_whole d (e ∷ es) [] n k a b done all ends end = absurd (not_both d e k b done.0 end)
  done_whole d (e ∷ es) (x ∷ fs) n k a b done all ends end =
      let same = do_same e x (sym done.0.picked ∙ all.0.picked) in
      let rest = subst (λ e. DoesAll f (after_pick f d e) es) same done.1 in
      let last = subst (λ e. EndsBy (after_picks f (after_pick f d e) es).pipeline n
      (picked f (after_picks f (after_pick f d e) es)) a) same ends in
      ap (λ e. e ∷ es) same ∙ ap (λ xs. x ∷ xs) (done_whole (after_pick f d x) es fs n k a b rest all.1 last end)

  -- so there is one judgement alone
  pub comes_once : (d : Driven X) (j k : Judgement) → Comes f d j → Comes f d k → j ≡ k
  comes_once d j k first second =
      let same = done_whole d j.events k.events (length j.events + 1) (length k.events + 1) j.fault k.fault
      first.done second.done first.ends second.ends in
      let ends = subst (λ es. EndsBy (after_picks f d es).pipeline (length es + 1) (picked f (after_picks f d es)) j.fault)
      same first.ends in
      let p = (after_picks f d k.events).pipeline in
      let c = picked f (after_picks f d k.events) in
      let n = length k.events + 1 in
      let end = same_end j.fault k.fault (sym (ends_if p n c j.fault ends) ∙ ends_if p n c k.fault second.ends) in
      λ i. record { events = same i; fault = end i }
