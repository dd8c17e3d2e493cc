-- Texts that are put one after another, and texts of which a part was put before a fault.
use Rattle.std.proofs.Common.{◌≡◌, ℕ, ◌≤◌, ◌<◌, ◌+◌, length, map, drop, get_or, add-one, Bor, IsErr, List, [], ◌++◌, Option, Some, None, Result, Ok, Err, OnOk, OnErr, refl, sym, ap, ◌∙◌, subst, append_assoc, append-nil, arith}
use Rattle.std.proofs.Math.Seq.{drop-cons}
use Rattle.std.proofs.lemmas.Result.{IfOk-from_err}
use Rattle.tss_outside.specs.declared.files.Failed.{Failed}
use Rattle.tss_outside.specs.declared.sink.Sink.{Ghosts}
use Rattle.tss_outside.specs.Outside.{risen, Rose, PutsPrefix, AppendsWhereTold}
use Rattle.tss_text.specs.declared.writer.PieceWriter.{PieceWriter}
use Rattle.tss_text.specs.Pieces.{joined, Output, Carries, Puts, output_of, Emits, Writes}

none_some : {X : Type 0} {x : X} → None ≡ Some x → ⊥
none_some e = cc

some_same : {X : Type 0} {x y : X} → Some x ≡ Some y → x ≡ y
some_same e = cc

-- what holds anyhow holds after a fault
pub on_any_err : {T E : Type 0} (r : Result T E) (P : Type 0) → P → OnErr r P
on_any_err (Ok v) P p = tt
on_any_err (Err e) P p = p

on_ok_more : {T E : Type 0} (r : Result T E) (P Q : Type 0) → (P → Q) → OnOk r P → OnOk r Q
on_ok_more (Ok v) P Q h p = h p
on_ok_more (Err e) P Q h p = tt

on_ok_both : {T E : Type 0} (r : Result T E) (P Q R : Type 0) → (P → Q → R) → OnOk r P → OnOk r Q → OnOk r R
on_ok_both (Ok v) P Q R h p q = h p q
on_ok_both (Err e) P Q R h p q = tt

on_err_more : {T E : Type 0} (r : Result T E) (P Q : Type 0) → (P → Q) → OnErr r P → OnErr r Q
on_err_more (Ok v) P Q h p = tt
on_err_more (Err e) P Q h p = h p

-- a later fault is a fault since before
pub rises_since : (a b c : ℕ) → a ≤ b → risen b ≤ c → risen a ≤ c
rises_since a b c h k = omega arith

through : {a b c : ℕ} → a ≤ b → b ≤ c → a ≤ c
through h k = omega arith

-- ---- what is written and what is kept

-- by their parts
abbrev CarriesAs : Option (List ℕ) → List ℕ → Option (List ℕ) → List ℕ → List ℕ → Type 0
CarriesAs old kept new keeps text =
    Carries (record { written = old; kept = kept; faults = 0 }) (record { written = new; kept = keeps; faults = 0 }) text

-- nothing was put
carries_none : (o : Option (List ℕ)) (kept : List ℕ) → CarriesAs o kept o kept []
carries_none None kept = tt
carries_none (Some a) kept = (a, [], refl, sym (append-nil a), sym (append-nil kept))

-- one text after another
carries_then : (o p r : Option (List ℕ)) (kept keeps rest xs ys : List ℕ) → CarriesAs o kept p keeps xs →
    CarriesAs p keeps r rest ys → CarriesAs o kept r rest (xs ++ ys)
carries_then o p None kept keeps rest xs ys first then = tt
carries_then o None (Some c) kept keeps rest xs ys first then = absurd (none_some then.2)
carries_then o (Some b) (Some c) kept keeps rest xs ys first then =
    let same : b ≡ then.0 = some_same then.2 in
    let all : (first.1 ++ then.1) ++ rest ≡ kept ++ (xs ++ ys) =
    append_assoc first.1 then.1 rest
    ∙ ap (λ l. first.1 ++ l) then.4
    ∙ sym (append_assoc first.1 keeps ys)
    ∙ ap (λ l. l ++ ys) first.4
    ∙ append_assoc kept xs ys in
    (first.0, first.1 ++ then.1, first.2, then.3 ∙ ap (λ l. l ++ then.1) (sym same ∙ first.3) ∙ append_assoc first.0 first.1 then.1, all)

-- a part of the second text was put after the first
prefix_then : (o p r : Option (List ℕ)) (kept keeps xs ys : List ℕ) → CarriesAs o kept p keeps xs →
    PutsPrefix p r (keeps ++ ys) → PutsPrefix o r (kept ++ (xs ++ ys))
prefix_then o p None kept keeps xs ys first then = ([], (_, refl), tt)
prefix_then o None (Some c) kept keeps xs ys first then = absurd (none_some then.2.1)
prefix_then o (Some b) (Some c) kept keeps xs ys first then =
    let same : b ≡ then.2.0 = some_same then.2.1 in
    let all : kept ++ (xs ++ ys) ≡ (first.1 ++ then.0) ++ then.1.0 =
    sym (append_assoc kept xs ys)
    ∙ ap (λ l. l ++ ys) (sym first.4)
    ∙ append_assoc first.1 keeps ys
    ∙ ap (λ l. first.1 ++ l) then.1.1
    ∙ sym (append_assoc first.1 then.0 then.1.0) in
    (first.1 ++ then.0, (then.1.0, all), (first.0, first.2, then.2.2 ∙ ap (λ l. l ++ then.0) (sym same ∙ first.3) ∙ append_assoc first.0 first.1 then.0))

-- a part of a text is a part of a longer one
prefix_more : (o r : Option (List ℕ)) (kept xs ys : List ℕ) → PutsPrefix o r (kept ++ xs) → PutsPrefix o r (kept ++ (xs ++ ys))
prefix_more o r kept xs ys part =
    (part.0, (part.1.0 ++ ys, sym (append_assoc kept xs ys) ∙ ap (λ l. l ++ ys) part.1.1 ∙ append_assoc part.0 part.1.0 ys), part.2)

-- a piece was written, and nothing is kept
carries_piece : (o p : Option (List ℕ)) (kept bytes : List ℕ) → AppendsWhereTold o p (kept ++ bytes) → CarriesAs o kept p [] bytes
carries_piece o None kept bytes h = tt
carries_piece o (Some b) kept bytes h = (h.0, kept ++ bytes, h.1, h.2, append-nil (kept ++ bytes))

-- bytes were kept
carries_kept : (o : Option (List ℕ)) (kept bytes : List ℕ) → CarriesAs o kept o (kept ++ bytes) bytes
carries_kept None kept bytes = tt
carries_kept (Some a) kept bytes = (a, [], refl, sym (append-nil a), refl)

-- where nothing was kept before and nothing is now, the text was written
written_whole : (o p : Option (List ℕ)) (kept keeps text : List ℕ) → kept ≡ [] → keeps ≡ [] → CarriesAs o kept p keeps text → AppendsWhereTold o p text
written_whole o None kept keeps text e f h = tt
written_whole o (Some b) kept keeps text e f h =
    let all : h.1 ≡ text = sym (append-nil h.1) ∙ ap (λ l. h.1 ++ l) (sym f) ∙ h.4 ∙ ap (λ l. l ++ text) e in
    (h.0, h.2, h.3 ∙ ap (λ l. h.0 ++ l) all)

-- ---- puts

-- the second text was put after the first, or failed
puts_then : (o p r : Output) (result : Result (Unit {0}) Failed) (xs ys : List ℕ) → Carries o p xs → o.faults ≤ p.faults →
    Puts p r result ys → Puts o r result (xs ++ ys)
puts_then o p r result xs ys first le then = record {
  ok = on_ok_more result _ _ (carries_then o.written p.written r.written o.kept p.kept r.kept xs ys first) then.ok;
  err = on_err_more result _ _ (prefix_then o.written p.written r.written o.kept p.kept xs ys first) then.err;
  cause = on_err_more result _ _ (rises_since o.faults p.faults r.faults le) then.cause;
  never_falls = through le then.never_falls;
}

-- a text that failed is a part of a longer one
puts_part : (o p : Output) (result : Result (Unit {0}) Failed) (e : Failed) (xs ys : List ℕ) → Puts o p (Err e) xs → IsErr result →
    Puts o p result (xs ++ ys)
puts_part o p result e xs ys part failed = record {
  ok = IfOk-from_err result _ failed;
  err = on_any_err result _ (prefix_more o.written p.written o.kept xs ys part.err);
  cause = on_any_err result _ part.cause;
  never_falls = part.never_falls;
}

-- ---- a writer

-- a text that is the same
pub same_text : {K : Type 0} {g : Ghosts K} {o p : PieceWriter K} {result : Result (Unit {0}) Failed} {text same : List ℕ} →
    text ≡ same → Emits g o p result text → Emits g o p result same
same_text {g = g} {o = o} {p = p} {result = result} e h = subst (λ t. Emits g o p result t) e h

-- bytes were kept
pub kept_put : {K : Type 0} {g : Ghosts K} {o p : PieceWriter K} {v : Unit {0}} (bytes : List ℕ) → p.out ≡ o.out →
    p.kept ≡ o.kept ++ bytes → Emits g o p (Ok v) bytes
kept_put {g = g} {o = o} {p = p} {v = v} bytes same more =
    let here : PieceWriter _ = record { out = o.out; kept = o.kept ++ bytes } in
    let kept : Emits g o here (Ok v) bytes = record {
      same_sink = refl;
      puts = record { ok = carries_kept (g.written o.out.now) o.kept bytes; err = tt; cause = tt; never_falls = omega arith };
    } in
    subst (λ w. Emits g o w (Ok v) bytes) (λ i. record { out = sym same i; kept = sym more i }) kept

-- a piece with these bytes at its end was written, and nothing is kept; or that failed
pub piece_put : {K : Type 0} {g : Ghosts K} {o p : PieceWriter K} {result : Result (Unit {0}) Failed} (bytes : List ℕ) →
    p.out.ghost_name ≡ o.out.ghost_name →
    OnOk result (AppendsWhereTold (g.written o.out.now) (g.written p.out.now) (o.kept ++ bytes)) → OnOk result (p.kept ≡ []) →
    OnErr result (PutsPrefix (g.written o.out.now) (g.written p.out.now) (o.kept ++ bytes)) →
    OnErr result (Rose (g.faults o.out.now) (g.faults p.out.now)) → g.faults o.out.now ≤ g.faults p.out.now →
    Emits g o p result bytes
piece_put {g = g} {o = o} {p = p} {result = result} bytes same ok empty err cause grows = record {
  same_sink = same;
  puts = record {
    ok = on_ok_both result _ _ _ (λ told none. subst (λ kept. CarriesAs (g.written o.out.now) o.kept (g.written p.out.now) kept bytes) (sym none)
        (carries_piece (g.written o.out.now) (g.written p.out.now) o.kept bytes told)) ok empty;
    err = err;
    cause = cause;
    never_falls = grows;
  };
}

-- what was kept was written, and nothing is kept; or that failed
pub rest_put : {K : Type 0} {g : Ghosts K} {o p : PieceWriter K} {result : Result (Unit {0}) Failed} →
    p.out.ghost_name ≡ o.out.ghost_name →
    OnOk result (AppendsWhereTold (g.written o.out.now) (g.written p.out.now) o.kept) → OnOk result (p.kept ≡ []) →
    OnErr result (PutsPrefix (g.written o.out.now) (g.written p.out.now) o.kept) →
    OnErr result (Rose (g.faults o.out.now) (g.faults p.out.now)) → g.faults o.out.now ≤ g.faults p.out.now →
    Emits g o p result []
rest_put {g = g} {o = o} {p = p} {result = result} same ok empty err cause grows =
    let all = sym (append-nil o.kept) in
    piece_put [] same
    (subst (λ l. OnOk result (AppendsWhereTold (g.written o.out.now) (g.written p.out.now) l)) all ok) empty
    (subst (λ l. OnErr result (PutsPrefix (g.written o.out.now) (g.written p.out.now) l)) all err) cause grows

-- ---- a text of which a part is left

-- what came before what is left was put
pub record HasPut {K : Type 0} (g : Ghosts K) (old new : PieceWriter K) (text left : List ℕ) : Type 0 where
  pub same_sink : new.out.ghost_name ≡ old.out.ghost_name
  pub done : List ℕ
  pub parts : text ≡ done ++ left
  pub put : Carries (output_of g old) (output_of g new) done
  pub never_falls : g.faults old.out.now ≤ g.faults new.out.now

-- nothing was put, and all is left
pub none_put : {K : Type 0} (g : Ghosts K) (w : PieceWriter K) (text left : List ℕ) → text ≡ left → HasPut g w w text left
none_put g w text left e =
    record { same_sink = refl; done = []; parts = e; put = carries_none (g.written w.out.now) w.kept; never_falls = omega arith }

module _ {K : Type 0} {g : Ghosts K} {o p : PieceWriter K} {text left : List ℕ} (has : HasPut g o p text left) where
  -- one part more was put
  pub more_put : {r : PieceWriter K} {v : Unit {0}} (part more : List ℕ) → left ≡ part ++ more → Emits g p r (Ok v) part →
      HasPut g o r text more
  more_put {r = r} part more e then = record {
    same_sink = then.same_sink ∙ has.same_sink;
    done = has.done ++ part;
    parts = has.parts ∙ ap (λ l. has.done ++ l) e ∙ sym (append_assoc has.done part more);
    put = carries_then (g.written o.out.now) (g.written p.out.now) (g.written r.out.now) o.kept p.kept r.kept has.done part
        has.put then.puts.ok;
    never_falls = through has.never_falls then.puts.never_falls;
  }

  -- the last part was put, or failed
  pub last_put : {r : PieceWriter K} {result : Result (Unit {0}) Failed} → Emits g p r result left → Emits g o r result text
  last_put {r = r} {result = result} then =
      same_text (sym has.parts) (record {
        same_sink = then.same_sink ∙ has.same_sink;
        puts = puts_then (output_of g o) (output_of g p) (output_of g r) result has.done left has.put has.never_falls then.puts;
      })

  -- one part more failed, so the whole did
  pub failed_put : {r : PieceWriter K} {e : Failed} {result : Result (Unit {0}) Failed} (part more : List ℕ) →
      left ≡ part ++ more → Emits g p r (Err e) part → IsErr result → Emits g o r result text
  failed_put {r = r} {e = e} {result = result} part more is then failed =
      last_put (same_text (sym is) (record {
        same_sink = then.same_sink;
        puts = puts_part (output_of g p) (output_of g r) result e part more then.puts failed;
      }))

  -- nothing is left
  pub all_put : {v : Unit {0}} → left ≡ [] → Emits g o p (Ok v) text
  all_put none = record {
    same_sink = has.same_sink;
    puts = record {
      ok = subst (Carries (output_of g o) (output_of g p)) (ap (λ l. has.done ++ l) (sym none) ∙ sym has.parts)
          (subst (Carries (output_of g o) (output_of g p)) (sym (append-nil has.done)) has.put);
      err = tt;
      cause = tt;
      never_falls = has.never_falls;
    };
  }

-- the parts from one on are it and those after it
pub joined_from : (xs : List (Bor (List ℕ))) (i : ℕ) (d : Bor (List ℕ)) → i < length xs →
    joined (map (λ b. b.now) (drop i xs)) ≡ (get_or xs i d).now ++ joined (map (λ b. b.now) (drop (i + 1) xs))
joined_from xs i d h = rw (add-one, drop-cons xs i d)

-- ---- a whole text into a sink

-- a text that is the same
pub same_written : {K : Type 0} {g : Ghosts K} {old new : K} {result : Result (Unit {0}) Failed} {text same : List ℕ} →
    text ≡ same → Writes g old new result text → Writes g old new result same
same_written {g = g} {old = old} {new = new} {result = result} e h = subst (λ t. Writes g old new result t) e h

-- a text was put into a writer that kept nothing, and then what was kept was written
pub whole_put : {K : Type 0} {g : Ghosts K} {o p r : PieceWriter K} {was : K} {v : Unit {0}} {result : Result (Unit {0}) Failed} (text : List ℕ) →
    o.out.now ≡ was → o.kept ≡ [] → Emits g o p (Ok v) text → Emits g p r result [] → OnOk result (r.kept ≡ []) →
    Writes g was r.out.now result text
whole_put {g = g} {o = o} {p = p} {r = r} {was = was} {result = result} text at none put flushed empty =
    let all : Emits g o r result text =
    last_put (more_put (none_put g o text text refl) text [] (sym (append-nil text)) put) flushed in
    subst (λ k. Writes g k r.out.now result text) at (record {
      ok = on_ok_both result _ _ _ (λ told kept. written_whole (g.written o.out.now) (g.written r.out.now) o.kept r.kept text none kept told) all.puts.ok empty;
      prefix = subst (λ kept. OnErr result (PutsPrefix (g.written o.out.now) (g.written r.out.now) (kept ++ text))) none all.puts.err;
      cause = all.puts.cause;
      never_falls = all.puts.never_falls;
    })

-- putting it failed
pub part_put : {K : Type 0} {g : Ghosts K} {o p : PieceWriter K} {was : K} {e : Failed} {result : Result (Unit {0}) Failed} (text : List ℕ) →
    o.out.now ≡ was → o.kept ≡ [] → Emits g o p (Err e) text → IsErr result → Writes g was p.out.now result text
part_put {g = g} {o = o} {p = p} {was = was} {result = result} text at none put failed =
    subst (λ k. Writes g k p.out.now result text) at (record {
      ok = IfOk-from_err result _ failed;
      prefix = on_any_err result _ (subst (λ kept. PutsPrefix (g.written o.out.now) (g.written p.out.now) (kept ++ text)) none put.puts.err);
      cause = on_any_err result _ put.puts.cause;
      never_falls = put.puts.never_falls;
    })
