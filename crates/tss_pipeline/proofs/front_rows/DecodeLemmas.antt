-- The decodes of a task's operands, sent one by one.
use Rattle.std.proofs.Common.{◌≡◌, ◌<◌, ◌≤◌, ℕ, suc, ◌+◌, List, [], ◌∷◌, length, drop, get_or, None, refl, sym, ap, ◌∙◌, subst, arith}
use Rattle.std.specs.FinMap.{get, insert, len}
use Rattle.std.proofs.lemmas.List.{drop_more}
use Rattle.tss_base.specs.declared.operand.Operand.{Operand}
use Rattle.tss_maps.proofs.Keys.{name_order}
use Rattle.tss_maps.proofs.Entries.{len_added}
use Rattle.tss_model.specs.Spawn.{no_operand}
use Rattle.tss_protocol.specs.Names.{operand_name}
use Rattle.tss_protocol.specs.Gateway.{decodes_from}
use Rattle.tss_protocol.specs.Mail.{Decode, posted_all}
use Rattle.tss_mail.specs.Letters.{MailState, mail_of}
use Rattle.tss_conditions.specs.Posting.{MayPostAll, MayPostNext}
use Rattle.tss_conditions.proofs.Postable.{post_next, nothing_there}

-- there are as many as operands
pub length-decodes_from : (task place : ℕ) (ops : List Operand) → length (decodes_from task place ops) ≡ length ops
length-decodes_from task place [] = refl
length-decodes_from task place (p ∷ ps) = ap suc (length-decodes_from task (suc place) ps)

next_place : (k : ℕ) → suc k ≡ k + 1
next_place k = omega arith

module _ (task : ℕ) (ops : List Operand) (k : ℕ) (within : k < length ops) where
  -- the first of those that are left
  left : decodes_from task k (drop k ops)
      ≡ Decode (operand_name task k) (get_or ops k no_operand) ∷ decodes_from task (k + 1) (drop (k + 1) ops)
  left =
      ap (decodes_from task k) (drop_more ops k no_operand within)
      ∙ ap (λ n. Decode (operand_name task k) (get_or ops k no_operand) ∷ decodes_from task n (drop (k + 1) ops))
      (next_place k)

  module _ (m : MailState) (may : MayPostAll m.size (mail_of m) (decodes_from task k (drop k ops))) where
    -- it may be sent, and then the others
    pub next_decode : MayPostNext m.size (mail_of m) (Decode (operand_name task k) (get_or ops k no_operand))
        (decodes_from task (k + 1) (drop (k + 1) ops))
    next_decode =
        post_next m.size (mail_of m) (Decode (operand_name task k) (get_or ops k no_operand))
        (decodes_from task (k + 1) (drop (k + 1) ops)) (subst (MayPostAll m.size (mail_of m)) left may)

    pub new_decode : get m.decodes (operand_name task k) ≡ None
    new_decode =
        nothing_there (Decode (operand_name task k)) (get m.decodes (operand_name task k)) next_decode.fresh

    module _ (n : MailState)
        (sent : n ≡ record m { decodes = insert m.decodes (operand_name task k) (get_or ops k no_operand) }) where
      pub others_may : MayPostAll n.size (mail_of n) (decodes_from task (k + 1) (drop (k + 1) ops))
      others_may =
          subst (λ (x : MailState). MayPostAll x.size (mail_of x) (decodes_from task (k + 1) (drop (k + 1) ops))) (sym sent)
          next_decode.rest

      -- with the others it is the same mail
      pub same_end : posted_all (mail_of n) (decodes_from task (k + 1) (drop (k + 1) ops))
          ≡ posted_all (mail_of m) (decodes_from task k (drop k ops))
      same_end =
          ap (λ (x : MailState). posted_all (mail_of x) (decodes_from task (k + 1) (drop (k + 1) ops))) sent
          ∙ ap (posted_all (mail_of m)) (sym left)

      -- and the same number
      pub same_many : (most : ℕ) → len m.decodes + length (drop k ops) ≤ most
          → len n.decodes + length (drop (k + 1) ops) ≤ most
      same_many most few =
          let one = len_added name_order m.decodes (operand_name task k) (get_or ops k no_operand) new_decode in
          let now = ap (λ (x : MailState). len x.decodes) sent in
          let rest = ap (λ (xs : List Operand). length xs) (drop_more ops k no_operand within) in
          omega (arith, one, now, rest, few)
