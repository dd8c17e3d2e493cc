-- The lines of the versions that are left from one on.
use Rattle.std.proofs.Common.{◌≡◌, ℕ, ◌<◌, List, [], ◌∷◌, ◌++◌, length, Option, Some, None, sym, ap, ◌∙◌, subst, arith}
use Rattle.std.specs.Prelude.{flat_map, option_map}
use Rattle.std.specs.FinMap.{get, entries}
use Rattle.tss_base.specs.declared.operand.OpName.{OpName}
use Rattle.tss_base.specs.Names.{Named}
use Rattle.tss_protocol.specs.State.{Version}
use Rattle.tss_versions.specs.declared.version_view.VersionView.{VersionView}
use Rattle.tss_state_lines.specs.Lines.{version_line}
use Rattle.tss_state_lines.specs.Shown.{version_of}
use Rattle.tss_state_text.specs.Versions.{next_entry, shown}
use Rattle.tss_state_text.proofs.NextEntries.{IsFirst, IsAbove, next_is_first, left_of, first_left, next_left}

-- the line of an entry
abbrev pub entry_text : OpName × Version → List ℕ
entry_text e = version_line e.0 e.1

module _ (vs : Named Version) where
  -- the versions from one on, and none where there is none
  abbrev pub left_from : Option VersionView → List (OpName × Version)
  left_from o = left_of vs (option_map (λ v. v.name) o)

  by_entry : (o : Option VersionView) (n : Option (OpName × Version)) → option_map shown o ≡ n →
      left_from o ≡ left_of vs (option_map (λ e. e.0) n)
  by_entry None n e = ap (λ n. left_of vs (option_map (λ (p : OpName × Version). p.0) n)) e
  by_entry (Some v) n e = ap (λ n. left_of vs (option_map (λ (p : OpName × Version). p.0) n)) e

  -- from the first on all are left
  pub first_lines : (n : Option VersionView) → option_map shown n ≡ next_entry vs None →
      flat_map entry_text (entries vs) ≡ flat_map entry_text (left_from n)
  first_lines n e = ap (flat_map entry_text) (first_left vs ∙ sym (by_entry n (next_entry vs None) e))

  left_next : (o n : Option VersionView) (v : VersionView) → o ≡ Some v → get vs v.name ≡ Some (version_of v) →
      option_map shown n ≡ next_entry vs (Some v.name) → left_from o ≡ shown v ∷ left_from n
  left_next o n v is there e =
      ap left_from is
      ∙ next_left vs v.name (version_of v) there
      ∙ ap (λ l. shown v ∷ l) (sym (by_entry n (next_entry vs (Some v.name)) e))

  -- the line of a version, and those after it
  pub here_lines : (o : Option VersionView) (v : VersionView) → o ≡ Some v → get vs v.name ≡ Some (version_of v) →
      flat_map entry_text (left_from o)
      ≡ version_line v.name (version_of v)
      ++ flat_map entry_text (left_of vs (option_map (λ e. e.0) (next_entry vs (Some v.name))))
  here_lines o v is there = ap (flat_map entry_text) (ap left_from is ∙ next_left vs v.name (version_of v) there)

  -- the line of a version, and those of the versions from the next on
  pub next_lines : (o n : Option VersionView) (v : VersionView) → o ≡ Some v → get vs v.name ≡ Some (version_of v) →
      option_map shown n ≡ next_entry vs (Some v.name) →
      flat_map entry_text (left_from o) ≡ version_line v.name (version_of v) ++ flat_map entry_text (left_from n)
  next_lines o n v is there e = ap (flat_map entry_text) (left_next o n v is there e)

  -- fewer are left
  pub fewer : (o n : Option VersionView) (v : VersionView) → o ≡ Some v → get vs v.name ≡ Some (version_of v) →
      option_map shown n ≡ next_entry vs (Some v.name) → length (left_from n) < length (left_from o)
  fewer o n v is there e = let more = ap length (left_next o n v is there e) in omega (arith, more)

  -- none is left
  pub no_lines : (o : Option VersionView) → o ≡ None → flat_map entry_text (left_from o) ≡ []
  unfolding left_of
  no_lines o e = ap (λ o. flat_map entry_text (left_from o)) e

  -- what is shown is there
  pub shown_there : (last : Option OpName) (o : Option VersionView) → option_map shown o ≡ next_entry vs last →
      (v : VersionView) → o ≡ Some v → get vs v.name ≡ Some (version_of v)
  shown_there last o e v is =
      let first : IsFirst vs (IsAbove vs last) (Some (shown v)) =
      subst (IsFirst vs (IsAbove vs last)) (sym e ∙ ap (option_map shown) is) (next_is_first vs last) in
      first.0
