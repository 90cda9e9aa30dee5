-- The text of a reply (RFC 9112, sections 4 to 6; its fields and bodies are this project's own).
use Rattle.std.specs.Prelude.{◌==◌, ◌&&◌, ◌≡◌, ◌≤◌, ℕ, Bool, not, List, [], ◌++◌, length, take, codes, decimal, unwrap_or, if◌then◌else◌, Option, Some, None, Result, Ok, Err}
use Rattle.http.specs.StatusCode.{reason_phrase}
use Rattle.pm_base.specs.declared.code.Code.{Code}
use Rattle.pm_base.specs.declared.code.Code.TheVariants.{E1, E2, E3, E4, H6}
use Rattle.pm_base.specs.Code.{code_name}
use Rattle.pm_http.specs.declared.reply.Reply.{Reply}
use Rattle.pm_http.specs.declared.error.ReplyError.{ReplyError}
use Rattle.pm_http.specs.declared.error.ReplyError.TheVariants.{WriteFault, Memory}

abbrev pub crlf : List ℕ
crlf = codes "\r\n"

-- The version, the status and its phrase.
unfoldable pub status_line : ℕ → List ℕ
status_line status =
    codes "HTTP/1.1 " ++ decimal status ++ codes " " ++ unwrap_or (reason_phrase status) (codes "") ++ crlf

-- The fields on a body of so many bytes.
unfoldable pub body_fields : ℕ → List ℕ
body_fields size = codes "Content-Type: application/json\r\nContent-Length: " ++ decimal size ++ crlf

-- The same, of which a reply 204 has none.
abbrev pub content_fields : ℕ → ℕ → List ℕ
content_fields status size = if status == 204 then [] else body_fields size

-- The field that names the methods comes with H6 alone.
abbrev pub allow_field : Option Code → List ℕ → List ℕ
allow_field (Some H6) allow = codes "Allow: " ++ allow ++ crlf
allow_field _ allow = []

unfoldable pub moment_field : ℕ → List ℕ
moment_field moment = codes "Pm-Moment: " ++ decimal moment ++ crlf

abbrev pub close_field : Bool → List ℕ
close_field close = if close then codes "Connection: close\r\n" else []

-- The line of a refusal of a batch of events, which its other refusals don't name.
abbrev pub line_member : Code → ℕ → List ℕ
line_member E1 line = codes ",\"line\":" ++ decimal line
line_member E2 line = codes ",\"line\":" ++ decimal line
line_member E3 line = codes ",\"line\":" ++ decimal line
line_member E4 line = codes ",\"line\":" ++ decimal line
line_member _ line = []

unfoldable pub refusal_body : Code → ℕ → List ℕ
refusal_body code line = codes "{\"code\":\"" ++ code_name code ++ codes "\"" ++ line_member code line ++ codes "}"

abbrev pub refusal_or : Option Code → ℕ → List ℕ → List ℕ
refusal_or (Some code) line body = refusal_body code line
refusal_or None line body = body

-- The body: that of the refusal, or the one given.
abbrev pub content_of : Reply → List ℕ
content_of reply = refusal_or reply.code reply.line reply.body

-- A body is written: not with status 204, and not in reply to HEAD (RFC 9110, section 9.3.2).
abbrev pub has_body : Reply → Bool
has_body reply = not (reply.status == 204) && not reply.head

-- The body as it is written.
abbrev pub body_text : Reply → List ℕ
body_text reply = if has_body reply then content_of reply else []

-- The lines before the body, with the empty one.
unfoldable pub head_text : Reply → ℕ → Bool → List ℕ
head_text reply moment close =
    status_line reply.status
    ++ content_fields reply.status (length (content_of reply))
    ++ allow_field reply.code reply.allow
    ++ moment_field moment
    ++ close_field close
    ++ crlf

-- The text of a reply at this moment, that closes the connection or doesn't.
abbrev pub reply_text : Reply → ℕ → Bool → List ℕ
reply_text reply moment close = head_text reply moment close ++ body_text reply

-- A write: the bytes written grow by all of these, at a fault of the sink by some of the first of them, and out of memory
-- by none.
abbrev pub Writes : List ℕ → List ℕ → List ℕ → Result Unit ReplyError → Type 0
Writes old new text (Ok _) = new ≡ old ++ text
Writes old new text (Err WriteFault) = (n : ℕ) × (n ≤ length text) × (new ≡ old ++ take n text)
Writes old new text (Err Memory) = new ≡ old
