-- A copy as its engine knows it, beside the definitions' copy, which knows names.
use Rattle.std.specs.Prelude.{◌≡◌, ℕ, ◌+◌, Bool, true, false, Option, Some, None}
use Rattle.tss_base.specs.declared.operand.OpName.{OpName}
use Rattle.tss_tokens.specs.Pool.{TokenState}
use Rattle.tss_protocol.specs.State.{CopyState}
use Rattle.tss_protocol.specs.Buffers.{piece_len, is_last_piece}
use Rattle.tss_buffers.specs.declared.copying.Copying.{Copying}
use Rattle.tss_buffers.specs.declared.copying.Moved.{Moved}

-- the copy of a version from the buffer of a name
abbrev pub copy_of : OpName → OpName → Copying → CopyState
copy_of v b c = record { version = v; object = c.object; buffer = b; moved = c.moved }

-- its next piece, and whether that is the last, which depend on no name
abbrev pub no_name : OpName
no_name = record { task = 0; place = 0 }

abbrev pub next_len : Copying → ℕ
next_len c = piece_len (copy_of no_name no_name c)

abbrev pub is_last : Copying → Bool
is_last c = is_last_piece (copy_of no_name no_name c)

-- the token after the last piece, and none before
abbrev pub token_after : Copying → Bool → Option TokenState
token_after c true = Some c.buffer
token_after c false = None

-- what the engine has after a piece: nothing after the last, and else the copy with the piece moved
abbrev pub copying_after : Copying → Bool → Option Copying
copying_after c true = None
copying_after c false = Some (record c { moved = c.moved + next_len c })

-- the next piece of a copy, and what the engine has after it
pub record AdvancesFrom (c : Copying) (m : Moved) (after : Option Copying) : Type 0 where
  pub place : m.place ≡ c.buffer.place
  pub at : m.at ≡ c.moved
  pub len : m.len ≡ next_len c
  pub last : m.last ≡ token_after c (is_last c)
  pub left : after ≡ copying_after c (is_last c)

-- of an engine that is busy
abbrev pub Advances : Option Copying → Moved → Option Copying → Type 0
Advances None m after = ⊥
Advances (Some c) m after = AdvancesFrom c m after
